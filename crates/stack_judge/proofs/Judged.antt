-- The stack's judgement: the laws of its tests, and of their order. Assumes nothing.
use mathlib.Core.Path.{◌≡◌, sym, ap, ◌∙◌}
use mathlib.Core.Bool.{Bool, true, false}
use mathlib.Core.List.{List}
use Prim.Native.Nat.{ℕ, suc, ◌*◌, ◌/◌, ◌≤◌, ◌<◌}
use native.Mathlib.Omega.{arith}
use lib.IntN.{ℤ}
use lib.ListN.{length}
use borrow.Author.Tests.{lt-ltb, le-ltb, ltb-false}
use Rattle.mesh.specs.Limits.{most_vertices}
use Rattle.mesh.specs.Search.{sum, first}
use Rattle.mesh.specs.Mesh.{edges, faces}
use Rattle.mesh.proofs.First.{or_false}
use Rattle.steps.specs.Sizes.{Sizes, sizes_of, closed_sizes}
use Rattle.rings.specs.Table.{Lent, valence_at, rows}
use Rattle.rings.specs.Accepts.{Room, Accepts}
use Rattle.rings.specs.Check.{check_verdict}
use Rattle.rings.specs.Verdict.{refuse_if, refuse_at, and_then}
use Rattle.rings.specs.declared.Refusal.{Refusal}
use Rattle.rings.specs.declared.Refusal.TheVariants.{LevelCount, LevelTooLarge, NoRoom}
use Rattle.rings.proofs.Rows.{fit_valences}
use Rattle.rings.proofs.Verdicts.{if_hit, if_pass, at_hit, at_pass}
use Rattle.rings.proofs.Accepted.{accepted_fit, accepted_all}
use Rattle.stack_judge.specs.declared.level.Level.{Level}
use Rattle.stack_judge.specs.Stack.{level_count, stack_count, bad_levels, too_large, short_stack}
use Rattle.stack_judge.specs.StackVerdict.{stack_verdict}
use Rattle.stack_judge.proofs.Sizes.{Sized}
use Rattle.std.specs.Prelude.{Ok, Err}

-- ---- reason 8

module _ (levels : ℕ) where
  pub good_levels : bad_levels levels ≡ false → (1 ≤ levels) × (levels ≤ 4)
  unfolding bad_levels
  good_levels e = let a = or_false _ _ e in (ltb-false levels 1 a.0, ltb-false 4 levels a.1)

  pub told_levels : (b : Bool) → b ≡ bad_levels levels → b ≡ false → levels ≤ 4
  told_levels b e h = (good_levels (sym e ∙ h)).1

-- ---- reason 9

module _ {s : Sizes} {k : ℕ} {l : Level} (z : Sized s k l) where
  pub large_here : most_vertices < l.vertices → too_large s k ≡ true
  unfolding too_large
  large_here h = lt-ltb most_vertices (level_count s k) (omega (arith, z.vertices))

  pub fits_here : l.vertices ≤ most_vertices → too_large s k ≡ false
  unfolding too_large
  fits_here h = le-ltb most_vertices (level_count s k) (omega (arith, z.vertices))

pub level_fits : (s : Sizes) (k : ℕ) → too_large s k ≡ false → level_count s k ≤ most_vertices
unfolding too_large
level_fits s k h = ltb-false most_vertices (level_count s k) h

-- ---- reason 10

module _ (n : ℕ) (t : Lent) (ps : List ℤ) where
  pub stack_room : short_stack n t ps ≡ false → Room n t × (n * 3 ≤ length ps)
  unfolding short_stack
  stack_room e =
      let a = or_false _ _ e in
      let b = or_false _ _ a.1 in
      (record { valences = ltb-false (length t.valences) n a.0; rings = ltb-false (length t.rings) (n * 32) b.0 }, ltb-false (length ps) (n * 3) b.1)

-- ---- the order of refusals, as `judge_stack` meets it

-- E as it is counted from the table
pub counted_edges : (n : ℕ) (t : Lent) (ps : List ℤ) → Accepts n t ps → (s : ℕ) → s ≡ sum (λ v. valence_at t v) n / 2 → s ≡ edges (rows n t)
unfolding edges
counted_edges n t ps a s e = e ∙ ap (λ (k : ℕ). k / 2) (fit_valences (accepted_fit n t ps (accepted_all n t ps a)))

module _ (n levels : ℕ) (t : Lent) (ps : List ℤ) (b : Bool) (e : b ≡ bad_levels levels) where
  pub stack_bad : b ≡ true → Err LevelCount ≡ stack_verdict n levels t ps
  unfolding stack_verdict
  stack_bad h = if_hit _ _ _ b e h

  module _ (h : b ≡ false) where
    past_levels : stack_verdict n levels t ps
        ≡ and_then (check_verdict n t ps)
        (refuse_at (too_large (sizes_of n (rows n t))) (suc levels) LevelTooLarge (refuse_if (short_stack (stack_count (sizes_of n (rows n t)) levels) t ps) NoRoom (Ok tt)))
    unfolding stack_verdict
    past_levels = if_pass _ _ _ b e h

    pub stack_check : (r : Refusal) → Err r ≡ check_verdict n t ps → Err r ≡ stack_verdict n levels t ps
    unfolding and_then
    stack_check r a = rw (past_levels, ← a)

    module _ (a : (Ok tt) ≡ check_verdict n t ps) (m : ℕ) (q : m ≡ edges (rows n t)) (k : ℕ) (g : k ≡ first (too_large (closed_sizes n m)) (suc levels)) where
      past_check : stack_verdict n levels t ps ≡ refuse_at (too_large (closed_sizes n m)) (suc levels) LevelTooLarge (refuse_if (short_stack (stack_count (closed_sizes n m) levels) t ps) NoRoom (Ok tt))
      unfolding and_then faces
      past_check = rw (past_levels, ← a, ← q)

      pub stack_large : k ≤ levels → Err (LevelTooLarge k) ≡ stack_verdict n levels t ps
      stack_large l = at_hit _ _ _ _ k g (omega arith) ∙ sym past_check

      module _ (f : levels < k) (w : ℕ) (p : w ≡ stack_count (closed_sizes n m) levels) (s : Bool) (z : s ≡ short_stack w t ps) where
        past_large : stack_verdict n levels t ps ≡ refuse_if (short_stack w t ps) NoRoom (Ok tt)
        past_large = past_check ∙ at_pass _ _ _ _ k g f ∙ ap (λ (x : ℕ). refuse_if (short_stack x t ps) NoRoom (Ok tt)) (sym p)

        pub stack_short : s ≡ true → Err NoRoom ≡ stack_verdict n levels t ps
        stack_short y = if_hit _ _ _ s z y ∙ sym past_large

        pub stack_accepted : s ≡ false → (Ok tt) ≡ stack_verdict n levels t ps
        stack_accepted y = sym (past_large ∙ if_pass _ _ _ s z y)
