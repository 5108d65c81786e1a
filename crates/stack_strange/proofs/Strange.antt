-- A row that is not as it is wanted, test by test. Assumes nothing.
use Prim.Native.Nat.{ℕ, ◌+◌}
use mathlib.Core.Path.{◌≡◌, sym, ◌∙◌}
use mathlib.Core.Bool.{Bool, false, not}
use mathlib.Core.List.{List}
use lib.Dec.{eqb}
use lib.IntN.{ℤ}
use lib.ListN.{length}
use borrow.Author.Tests.{eq-eqb, eqb-true}
use Rattle.mesh.proofs.First.{or_false}
use Rattle.loop_step.specs.Refine.{refine}
use Rattle.rings.specs.Table.{Lent, valence_at, ring_of, rows}
use Rattle.rings.specs.Check.{beyond_at}
use Rattle.stack_strange.specs.Expected.{same_list, other_than, strange_next}
use Rattle.stack_strange.proofs.SameLists.{and_true, same_self, same_only, not_false}

module _ (want : List ℕ) (t : Lent) (ps : List ℤ) (j : ℕ) where
  -- a row with the valence and the ring that are wanted is strange by its point
  pub other_point : valence_at t j ≡ length want → (b : Bool) → b ≡ not (same_list (ring_of t j) want) → b ≡ false → (d : Bool) → d ≡ beyond_at ps j
      → d ≡ other_than want t ps j
  unfolding other_than
  other_point e b q h d p = rw (eq-eqb (valence_at t j) (length want) e, ← q, h) p

  -- a row that is as it is wanted
  pub as_wanted : other_than want t ps j ≡ false → (valence_at t j ≡ length want) × ((ring_of t j ≡ want) × (beyond_at ps j ≡ false))
  unfolding other_than
  as_wanted h =
      let a = or_false _ _ h in
      let b = and_true (eqb (valence_at t j) (length want)) (same_list (ring_of t j) want) (not_false _ a.0) in
      (eqb-true (valence_at t j) (length want) b.0, (same_only (ring_of t j) want b.1, a.1))

  pub not_other : valence_at t j ≡ length want → ring_of t j ≡ want → beyond_at ps j ≡ false → other_than want t ps j ≡ false
  unfolding other_than
  not_other e r b = rw (eq-eqb (valence_at t j) (length want) e, r, same_self want, b)

-- the same of a vertex of the next level, whose valence should be k
pub next_point_lem : (n : ℕ) (t : Lent) (ps : List ℤ) (x k : ℕ) → length ((refine (rows n t)).ring x) ≡ k → valence_at t (n + x) ≡ k
    → (b : Bool) → b ≡ not (same_list (ring_of t (n + x)) ((refine (rows n t)).ring x)) → b ≡ false → (d : Bool) → d ≡ beyond_at ps (n + x)
    → d ≡ strange_next n t ps x
unfolding strange_next
next_point_lem n t ps x k w e b q h d p = other_point ((refine (rows n t)).ring x) t ps (n + x) (e ∙ sym w) b q h d p
