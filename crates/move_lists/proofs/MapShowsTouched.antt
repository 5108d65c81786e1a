-- An accepted list marks exactly the touched points of the stack, those it names and those that depend on them through the masks,
-- and what it answers is their number: the ones in the map (section "Moves").
-- Assumes nothing.
use Prim.Native.Nat.{ℕ, ◌+◌, ◌*◌, ◌≤◌, ◌<◌}
use mathlib.Core.Path.{◌≡◌, refl, sym, ap, ap₂, ◌∙◌}
use mathlib.Core.Bool.{false, ◌&&◌}
use mathlib.Core.List.{List, [], ◌∷◌}
use native.Mathlib.Omega.{arith}
use lib.Dec.{ltb}
use lib.IntN.{ℤ}
use lib.ListN.{length, get_or}
use borrow.Author.Tests.{lt-ltb, le-ltb}
use Rattle.mesh.specs.Mesh.{Mesh}
use Rattle.steps.specs.Mask.{touched}
use Rattle.steps.specs.Sizes.{sizes_of}
use Rattle.loop_step.specs.Refine.{level}
use Rattle.loop_step.specs.Loop.{loop}
use Rattle.rings.specs.Table.{Lent, put, rows}
use Rattle.rings.specs.Verdict.{after, with_amount}
use Rattle.rings.proofs.Tables.{put_behind, length_gather}
use Rattle.stack_judge.specs.Stack.{level_start, stack_count}
use Rattle.stack_judge.proofs.Sizes.{level_count_lem}
use Rattle.stack_judge.proofs.StackVertices.{vertex_in, level_of_lem, number_in_lem}
use Rattle.move_map.specs.Map.{marked, word_count, word, map_words, ones_in, Words}
use Rattle.move_map.proofs.Bits.{members_same}
use Rattle.move_map.proofs.Sets.{ones_members, words_after, marked_first}
use Rattle.stack_strange.specs.Expected.{whole}
use Rattle.move_refresh.specs.Stack.{TouchedMarked}
use Rattle.move_refresh.proofs.TouchedMarks.{marks_counted}
use Rattle.move_plan.specs.Moves.{named}
use Rattle.move_plan.specs.declared.Move.{Move}
use Rattle.move_lists.specs.Apply.{touched_at, touched_total, touched_map, apply_verdict, apply_answer, apply_map}
use Rattle.move_lists.proofs.AfterList.{control_first, stack_accepted, names_below, map_room}
use Rattle.std.specs.Prelude.{Ok}

module _ (n levels : ℕ) (t : Lent) (ps : List ℤ) (map : List ℕ) (ms : List Move) (accepted : apply_verdict n levels t ps map ms ≡ (Ok tt)) where
  abbrev M : Mesh
  M = rows n t

  abbrev W : ℕ
  W = whole n levels t ps

  map_is : apply_map n levels t ps map ms ≡ put map 0 (map_words (touched_at n levels t ps (named ms)) W)
  unfolding apply_map touched_map after
  map_is = rw accepted

  room : word_count W ≤ length map
  room = map_room n levels t ps map ms accepted

  marks : (i : ℕ) → i < word_count W * 32 → marked (apply_map n levels t ps map ms) i ≡ (ltb i W && touched_at n levels t ps (named ms) i)
  marks i h = ap (λ (m : List ℕ). marked m i) map_is ∙ marked_first (touched_at n levels t ps (named ms)) W map room i h

  -- vertex x of level k is a stack vertex, and touched as such where it is touched
  in_stack : (k x : ℕ) → k ≤ levels → x < (level M k).count → (level_start (sizes_of n M) k + x < W) × (touched_at n levels t ps (named ms) (level_start (sizes_of n M) k + x) ≡ touched (loop M) (named ms) k x)
  unfolding touched_at whole rows
  in_stack k x l h =
      let c = level_count_lem M (stack_accepted n levels t ps map ms accepted).control.sound k in
      (vertex_in (sizes_of n M) levels k x l (omega arith), ap₂ (touched (loop M) (named ms)) (level_of_lem (sizes_of n M) levels k x l (omega arith)) (number_in_lem (sizes_of n M) levels k x l (omega arith)))

  -- the map marks vertex x of level k exactly where it is touched
  pub map_shows_touched : (k x : ℕ) → k ≤ levels → x < (level M k).count
      → marked (apply_map n levels t ps map ms) (level_start (sizes_of n M) k + x) ≡ touched (loop M) (named ms) k x
  map_shows_touched k x l h =
      let s = in_stack k x l h in
      let b = s.0 in
      marks (level_start (sizes_of n M) k + x) (omega arith) ∙ rw (lt-ltb (level_start (sizes_of n M) k + x) W b) s.1

  -- spare bits of the last word are zero
  pub spare_bits_are_zero : (i : ℕ) → W ≤ i → i < word_count W * 32 → marked (apply_map n levels t ps map ms) i ≡ false
  spare_bits_are_zero i l h = marks i h ∙ rw (le-ltb i W l)

  -- later words stay
  pub later_words_stay : (w : ℕ) → word_count W ≤ w → get_or (apply_map n levels t ps map ms) w 0 ≡ get_or map w 0
  unfolding map_words
  later_words_stay w l =
      let e = length_gather (λ j. word (touched_at n levels t ps (named ms)) W j ∷ []) 1 (λ j. refl) (word_count W) in
      let r = room in
      ap (λ (m : List ℕ). get_or m w 0) map_is ∙ put_behind map 0 (map_words (touched_at n levels t ps (named ms)) W) (omega arith) 0 w (omega arith)

  control_first_in : n ≤ stack_count (sizes_of n M) levels
  unfolding stack_count
  control_first_in = control_first (sizes_of n M) levels

  behind : (j : ℕ) → stack_count (sizes_of n M) levels ≤ j → (ltb j W && touched_at n levels t ps (named ms) j) ≡ named ms j
  unfolding whole
  behind j h = let c = control_first_in in rw (le-ltb j W h) (sym (names_below n levels t ps map ms accepted j (omega arith)))

  -- the marks as a set, which has nothing behind the stack
  touched_marked : TouchedMarked n levels t (named ms) (λ i. ltb i W && touched_at n levels t ps (named ms) i)
  touched_marked = record {
    at = λ k x l h. let s = in_stack k x l h in rw (lt-ltb (level_start (sizes_of n M) k + x) W s.0) s.1;
    behind = behind;
  }

  counted : Words map → ones_in (apply_map n levels t ps map ms) (word_count W) ≡ touched_total n levels t ps (named ms)
  unfolding touched_total whole
  counted w =
      ones_members (apply_map n levels t ps map ms) (rw map_is (words_after (touched_at n levels t ps (named ms)) W map room w)) (word_count W)
      ∙ members_same (marked (apply_map n levels t ps map ms)) (λ i. ltb i W && touched_at n levels t ps (named ms) i) (word_count W * 32) marks
      ∙ marks_counted (stack_accepted n levels t ps map ms accepted) touched_marked (λ j h g. let c = control_first_in in names_below n levels t ps map ms accepted j (omega arith))

  -- the answer is the number of ones in the map, where its words are words of 32 bits
  pub answer_counts_ones : Words map → apply_answer n levels t ps map ms ≡ Ok (ones_in (apply_map n levels t ps map ms) (word_count W))
  unfolding apply_answer with_amount
  answer_counts_ones w = rw accepted (ap Ok (sym (counted w)))
