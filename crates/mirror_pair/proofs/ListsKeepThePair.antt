-- Any list of moves on the left, mirrored move by move on the right, keeps the pair (document 02, order 3): it is answered alike, with the
-- same count, or with the same number and place; it marks the same map; and it leaves a pair. So does any sequence of lists.
-- Assumes nothing.
use mathlib.Core.Path.{◌≡◌, refl, sym, ap, ap₂, ◌∙◌, fun_ext}
use mathlib.Core.Bool.{Bool}
use mathlib.Core.List.{List, [], ◌∷◌}
use Prim.Native.Nat.{ℕ, suc, ◌+◌, ◌≤◌, ◌<◌}
use lib.Dec.{ltb}
use lib.IntN.{ℤ}
use lib.ListN.{length, get_or, length-map}
use Rattle.mesh.specs.Mesh.{Mesh}
use Rattle.steps.specs.Mask.{touched_count}
use Rattle.steps.specs.Sizes.{sizes_of}
use Rattle.loop_step.specs.Refine.{level}
use Rattle.loop_step.specs.Loop.{loop}
use Rattle.rings.specs.Table.{Lent, rows}
use Rattle.rings.specs.Check.{beyond_at}
use Rattle.rings.specs.Verdict.{refuse_if, and_then, after, with_amount}
use Rattle.rings.specs.declared.Refusal.TheVariants.{NoRoom, StackAltered}
use Rattle.rings.proofs.Verdicts.{at_same}
use Rattle.stack_judge.specs.Stack.{level_start, level_of, number_in}
use Rattle.stack_judge.proofs.Sizes.{level_count_lem}
use Rattle.stack_judge.proofs.StackVertices.{stack_vertex}
use Rattle.move_map.specs.Map.{word_count, map_words}
use Rattle.move_map.proofs.Sets.{after_first, words_same}
use Rattle.mirror.specs.Mirror.{Mirrored}
use Rattle.mirror.proofs.EveryLevelIsMirrored.{touched_alike, counted_alike}
use Rattle.stack_strange.specs.Expected.{whole, strange}
use Rattle.stack_as_refined.proofs.StackRows.{control_clear}
use Rattle.move_plan.specs.Moves.{pending, run, named}
use Rattle.move_plan.specs.declared.Move.{Move}
use Rattle.move_lists.specs.Apply.{before_moves, touched_at, touched_total, touched_map, moved, moved_control, apply_verdict, apply_answer, apply_positions, apply_map}
use Rattle.move_lists.specs.Fresh.{ListCall, after_calls}
use Rattle.move_lists.proofs.AfterList.{refused_keeps, control_after, map_room}
use Rattle.mirror_pair.specs.Pair.{Opposite, MirroredTables, Pair}
use Rattle.mirror_pair.specs.MirroredLists.{mirrored_move, mirrored_list, MirroredCalls}
use Rattle.mirror_pair.proofs.MirroredTablesAreJudgedAlike.{control_mirrored, beyond_alike, stack_is_judged_alike}
use Rattle.mirror_pair.proofs.PairsAreMirrored as pair
use Rattle.mirror_pair.proofs.Opposites.{opposite_again}
use Rattle.mirror_pair.proofs.TrueStacks.{by_control, strange_is_beyond, length_stays, list_keeps_the_stack_true}
use Rattle.mirror_pair.proofs.MirroredRuns.{named_mirrored, Alike, both, run_mirrored, alike_verdict, alike_points}
use Rattle.rings.specs.Refusal.{Verdict}
use Rattle.std.specs.Prelude.{Ok, Err}

module _ (n levels : ℕ) (t : Lent) (ps : List ℤ) (t' : Lent) (ps' : List ℤ) (P : Pair n levels t ps t' ps') where
  abbrev M : Mesh
  M = rows n t

  abbrev N : Mesh
  N = rows n t'

  abbrev W : ℕ
  W = whole n levels t ps

  R : Mirrored M N
  R = control_mirrored n t ps t' ps' P.controls

  same_sizes : sizes_of n N ≡ sizes_of n M
  same_sizes = pair.same_sizes n levels t ps t' ps' P

  same_whole : whole n levels t' ps' ≡ W
  unfolding whole
  same_whole = rw same_sizes

  mirrored : MirroredTables W t ps t' ps'
  mirrored = pair.pair_is_mirrored n levels t ps t' ps' P

  -- ---- judged alike before the first move

  strange_alike : (j : ℕ) → j < W → strange n levels t ps j ≡ strange n levels t' ps' j
  strange_alike j h =
      by_control n levels t ps P.left
      (λ i. beyond_at ps' i ≡ beyond_at ps i → strange n levels t ps i ≡ strange n levels t' ps' i)
      (λ v l b. (control_clear n levels t ps).below v l ∙ sym ((control_clear n levels t' ps').below v l))
      (λ k x l g b. strange_is_beyond n levels t ps P.left k x l g ∙ sym b ∙ sym (on_the_right k x l g))
      j h (beyond_alike W ps ps' mirrored.points j h)
    where
      on_the_right : (k x : ℕ) → k < levels → x < (level M (suc k)).count
          → strange n levels t' ps' (level_start (sizes_of n M) (suc k) + x) ≡ beyond_at ps' (level_start (sizes_of n M) (suc k) + x)
      on_the_right k x l g =
          let e = strange_is_beyond n levels t' ps' P.right k x l (pair.there n levels t ps t' ps' P (suc k) x l g) in
          rw same_sizes at e

  before_alike : (words moves : ℕ) → before_moves n levels t' ps' words moves ≡ before_moves n levels t ps words moves
  unfolding before_moves
  before_alike words moves =
      rw (same_whole)
      (ap₂ and_then (stack_is_judged_alike n t ps t' ps' P.controls levels)
      (ap (refuse_if (ltb words (word_count W)) NoRoom)
      (sym (at_same (strange n levels t ps) (strange n levels t' ps') W StackAltered _ _ strange_alike (λ c. refl)))))

  -- ---- the same points are touched

  touched_at_alike : (names : ℕ → Bool) (j : ℕ) → j < W → touched_at n levels t' ps' names j ≡ touched_at n levels t ps names j
  unfolding touched_at whole rows
  touched_at_alike names j h =
      let s = stack_vertex (sizes_of n M) levels j h in
      rw same_sizes
      (touched_alike M N P.left.sound R names (level_of (sizes_of n M) levels j) (number_in (sizes_of n M) levels j)
      (let i = s.1.1 in rw (level_count_lem M P.left.sound (level_of (sizes_of n M) levels j)) i))

  -- a list and its mirror image name the same vertices
  names_alike : (ms : List Move) → named (mirrored_list ms) ≡ named ms
  names_alike ms = fun_ext (named_mirrored ms)

  -- ---- a list and its mirror image

  module _ (map map' : List ℕ) (ms : List Move) (words : length map' ≡ length map) where
    abbrev ms' : List Move
    ms' = mirrored_list ms

    alike : Alike n (run n ms 0 (pending ps)) (run n ms' 0 (pending ps'))
    alike = run_mirrored n ms 0 (pending ps) (pending ps') (both ps ps' P.left.room P.controls.points)

    verdict_alike : apply_verdict n levels t' ps' map' ms' ≡ apply_verdict n levels t ps map ms
    unfolding apply_verdict moved
    verdict_alike =
        ap₂ and_then
        (ap₂ (before_moves n levels t' ps') words (length-map ms mirrored_move) ∙ before_alike (length map) (length ms))
        (alike_verdict n (run n ms 0 (pending ps)) (run n ms' 0 (pending ps')) alike)

    -- answered alike: the same count, or the same number and place
    pub list_is_answered_alike : apply_answer n levels t' ps' map' ms' ≡ apply_answer n levels t ps map ms
    unfolding apply_answer touched_total
    list_is_answered_alike =
        ap₂ with_amount verdict_alike
        (ap (λ names. touched_count (loop N) names (suc levels)) (names_alike ms) ∙ counted_alike M N P.left.sound R (named ms) (suc levels))

    -- the words of touched points, which an accepted list writes
    abbrev marks : ℕ → Bool
    marks = touched_at n levels t ps (named ms)

    same_words : map_words (touched_at n levels t' ps' (named ms')) (whole n levels t' ps') ≡ map_words marks W
    same_words =
        rw (same_whole, names_alike ms) (words_same (touched_at n levels t' ps' (named ms)) marks W (touched_at_alike (named ms)))

    -- an accepted list marks the same words in both maps
    pub list_marks_the_same_words : apply_verdict n levels t ps map ms ≡ (Ok tt) → (w : ℕ) → w < word_count W
        → get_or (apply_map n levels t' ps' map' ms') w 0 ≡ get_or (apply_map n levels t ps map ms) w 0
    unfolding apply_map touched_map after
    list_marks_the_same_words e w h =
        let r : word_count W ≤ length map = map_room n levels t ps map ms e in
        rw (verdict_alike, e, same_words)
        (after_first marks W map' (rw words r) w h ∙ sym (after_first marks W map r w h))

    -- ---- the pair stays

    control_opposite : Opposite n (moved_control n levels t ps map ms) (moved_control n levels t' ps' map' ms')
    unfolding moved_control moved
    control_opposite = alike_points n (run n ms 0 (pending ps)) (run n ms' 0 (pending ps')) ps ps' alike P.controls.points

    after_opposite : (v : Verdict) → apply_verdict n levels t ps map ms ≡ v
        → Opposite n (apply_positions n levels t ps map ms) (apply_positions n levels t' ps' map' ms')
    unfolding level rows
    after_opposite (Err r) e =
        rw (refused_keeps n levels t ps map ms r e, refused_keeps n levels t' ps' map' ms' r (verdict_alike ∙ e))
        P.controls.points
    after_opposite (Ok u) e =
        opposite_again n (moved_control n levels t ps map ms) (moved_control n levels t' ps' map' ms')
        (apply_positions n levels t ps map ms) (apply_positions n levels t' ps' map' ms')
        (length_stays n levels t' ps' map' ms' ∙ P.controls.points.long ∙ sym (length_stays n levels t ps map ms))
        (control_after n levels t ps map ms e) (control_after n levels t' ps' map' ms' (verdict_alike ∙ e)) control_opposite

    -- the theorem for one list
    pub list_keeps_the_pair :
        Pair n levels t (apply_positions n levels t ps map ms) t' (apply_positions n levels t' ps' map' ms')
    list_keeps_the_pair =
        let c = P.controls in
        record {
          controls = record {
            valences = c.valences;
            rings = c.rings;
            valence = c.valence;
            ring = c.ring;
            points = after_opposite (apply_verdict n levels t ps map ms) refl;
          };
          left = list_keeps_the_stack_true n levels t ps map ms P.left;
          right = list_keeps_the_stack_true n levels t' ps' map' ms' P.right;
        }

  -- with the same map lent, both maps are the same afterwards, refused or not
  pub list_marks_the_same_map : (map : List ℕ) (ms : List Move)
      → apply_map n levels t' ps' map (mirrored_list ms) ≡ apply_map n levels t ps map ms
  unfolding apply_map touched_map
  list_marks_the_same_map map ms = rw (verdict_alike map map ms refl, same_words map map ms refl)

-- ---- any lists

-- the theorem: after any lists, accepted or refused
pub lists_keep_the_pair : (n levels : ℕ) (t t' : Lent) (cs ds : List ListCall) → MirroredCalls cs ds
    → (ps ps' : List ℤ) → Pair n levels t ps t' ps'
    → Pair n levels t (after_calls n levels t cs ps) t' (after_calls n levels t' ds ps')
lists_keep_the_pair n levels t t' [] [] m ps ps' P = P
lists_keep_the_pair n levels t t' [] (d ∷ ds) m ps ps' P = absurd m
lists_keep_the_pair n levels t t' (c ∷ cs) [] m ps ps' P = absurd m
lists_keep_the_pair n levels t t' (c ∷ cs) (d ∷ ds) m ps ps' P =
    lists_keep_the_pair n levels t t' cs ds m.1
    (apply_positions n levels t ps c.map c.moves) (apply_positions n levels t' ps' d.map d.moves)
    (rw m.0.moves (list_keeps_the_pair n levels t ps t' ps' P c.map d.map c.moves m.0.words))
