-- What is judged before the first move: what each outcome of the judging function shows, and what an accepted judgement tells of the stack and the map. Assumes nothing.
use Prim.Native.Nat.{ℕ, suc, ◌/◌, ◌≤◌, ◌<◌}
use mathlib.Core.Path.{◌≡◌, refl, sym, ap, ◌∙◌}
use mathlib.Core.Bool.{true, false}
use mathlib.Core.List.{List}
use native.Mathlib.Omega.{arith}
use lib.Dec.{ltb}
use lib.IntN.{ℤ}
use lib.ListN.{length}
use borrow.Author.Tests.{lt-ltb, le-ltb, ltb-false}
use Rattle.mesh.specs.Limits.{stack_bound, most_vertices}
use Rattle.mesh.proofs.Lists.{sum_bounded}
use Rattle.mesh.specs.Search.{sum, first}
use Rattle.mesh.specs.Mesh.{edges, faces}
use Rattle.mesh.proofs.First.{first_end}
use Rattle.steps.specs.Sizes.{sizes_of, closed_sizes}
use Rattle.rings.specs.Table.{Lent, valence_at, rows}
use Rattle.rings.specs.Verdict.{and_then}
use Rattle.rings.specs.declared.Refusal.{Refusal}
use Rattle.rings.specs.declared.Refusal.TheVariants.{NoRoom, StackAltered, TooManyMoves}
use Rattle.rings.proofs.Verdicts.{if_hit, if_pass, at_hit, at_pass, if_accepted, at_accepted, then_accepted}
use Rattle.move_map.specs.Map.{word_count}
use Rattle.stack_judge.specs.Stack.{level_count, level_start, stack_count, bad_levels}
use Rattle.stack_judge.specs.Accepts.{AcceptsStack}
use Rattle.stack_judge.specs.StackVerdict.{stack_verdict}
use Rattle.stack_judge.proofs.AcceptedStack.{stack_only}
use Rattle.stack_judge.proofs.Judged.{counted_edges}
use Rattle.stack_strange.specs.Expected.{whole, strange}
use Rattle.move_lists.specs.Apply.{before_moves}
use Rattle.std.specs.Prelude.{Ok, Err}

-- ---- an accepted stack

module _ {n levels : ℕ} {t : Lent} {ps : List ℤ} (a : AcceptsStack n levels t ps) where
  pub edges_asked : (n ≤ length t.valences) × (n ≤ 1024)
  edges_asked = (a.control.room.valences, a.control.high)

  pub edges_are : (s : ℕ) → s ≡ sum (λ v. valence_at t v) n / 2 → s ≡ edges (rows n t)
  edges_are s e = counted_edges n t ps a.control s e

  pub whole_is : (s w : ℕ) → s ≡ sum (λ v. valence_at t v) n / 2 → w ≡ stack_count (closed_sizes n s) levels → w ≡ whole n levels t ps
  unfolding whole faces
  whole_is s w e h = h ∙ ap (λ (x : ℕ). stack_count (closed_sizes n x) levels) (edges_are s e)

  pub whole_small : whole n levels t ps ≤ stack_bound
  unfolding whole stack_count level_start
  whole_small =
      let h = sum_bounded (level_count (sizes_of n (rows n t))) most_vertices (suc levels) (λ i l. a.fits i (omega arith)) in
      let l = a.high in
      omega arith

-- ---- the outcomes of the judgement

module _ (n levels : ℕ) (t : Lent) (ps : List ℤ) (words moves : ℕ) where
  pub before_stack : (r : Refusal) → Err r ≡ stack_verdict n levels t ps → Err r ≡ before_moves n levels t ps words moves
  unfolding before_moves and_then
  before_stack r e = rw (← e)

  module _ (e : (Ok tt) ≡ stack_verdict n levels t ps) where
    module _ (w : ℕ) (h : w ≡ whole n levels t ps) where
      pub before_words : words < word_count w → Err NoRoom ≡ before_moves n levels t ps words moves
      unfolding before_moves and_then
      before_words l = rw (← e, ← h) (if_hit (ltb words (word_count w)) NoRoom _ true (sym (lt-ltb words (word_count w) l)) refl)

      module _ (room : word_count w ≤ words) (x : ℕ) (f : x ≡ first (strange n levels t ps) (whole n levels t ps)) where
        pub before_strange : x < w → Err (StackAltered x) ≡ before_moves n levels t ps words moves
        unfolding before_moves and_then
        before_strange l =
            let g : x < whole n levels t ps = rw h at l in
            rw (← e, ← h)
            (at_hit (strange n levels t ps) w StackAltered _ x (f ∙ ap (first (strange n levels t ps)) (sym h)) l
            ∙ sym (if_pass (ltb words (word_count w)) NoRoom _ false (sym (le-ltb words (word_count w) room)) refl))

        module _ (none : w ≤ x) where
          pub before_many : 64 < moves → Err TooManyMoves ≡ before_moves n levels t ps words moves
          unfolding before_moves and_then
          before_many l =
              rw (← e, ← h)
              (if_hit (ltb 64 moves) TooManyMoves (Ok tt) true (sym (lt-ltb 64 moves l)) refl
              ∙ sym (at_pass (strange n levels t ps) w StackAltered _ x (f ∙ ap (first (strange n levels t ps)) (sym h)) none)
              ∙ sym (if_pass (ltb words (word_count w)) NoRoom _ false (sym (le-ltb words (word_count w) room)) refl))

          pub before_accepted : moves ≤ 64 → (Ok tt) ≡ before_moves n levels t ps words moves
          unfolding before_moves and_then
          before_accepted l =
              rw (← e, ← h)
              (sym (if_pass (ltb 64 moves) TooManyMoves (Ok tt) false (sym (le-ltb 64 moves l)) refl)
              ∙ sym (at_pass (strange n levels t ps) w StackAltered _ x (f ∙ ap (first (strange n levels t ps)) (sym h)) none)
              ∙ sym (if_pass (ltb words (word_count w)) NoRoom _ false (sym (le-ltb words (word_count w) room)) refl))

  -- ---- what an accepted judgement tells

  pub record Judged : Type 0 where
    pub stack : AcceptsStack n levels t ps
    pub room : word_count (whole n levels t ps) ≤ words
    pub true' : whole n levels t ps ≡ first (strange n levels t ps) (whole n levels t ps)
    pub few : moves ≤ 64
    pub good : bad_levels levels ≡ false

  pub judged : before_moves n levels t ps words moves ≡ (Ok tt) → Judged
  unfolding before_moves stack_verdict
  judged e =
      let b = then_accepted (stack_verdict n levels t ps) _ e in
      let c = if_accepted (ltb words (word_count (whole n levels t ps))) _ _ b.1 in
      let d = at_accepted (strange n levels t ps) (whole n levels t ps) _ _ c.1 in
      let f = if_accepted (ltb 64 moves) _ _ d.1 in
      record {
        stack = stack_only n levels t ps b.0;
        room = ltb-false words (word_count (whole n levels t ps)) c.0;
        true' = first_end d.0 (omega arith) (omega arith);
        few = ltb-false 64 moves f.0;
        good = (if_accepted (bad_levels levels) _ _ b.0).0;
      }
