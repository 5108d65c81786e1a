-- The entries of a ring that a filter lets through: those over p, and of these the ones below q. Assumes nothing.
use mathlib.Core.Path.{◌≡◌, refl, ap}
use mathlib.Core.Bool.{cond, ◌&&◌}
use mathlib.Core.List.{List, [], ◌∷◌}
use mathlib.Core.Logic.{⊎_elim}
use Prim.Native.Nat.{ℕ}
use native.Mathlib.Omega.{arith}
use lib.Dec.{ltb}
use lib.ListN.{length}
use Rattle.std.specs.List.{filter}
use Rattle.mesh.specs.Numbering.{below}
use Rattle.mesh.specs.Mesh.{over}
use Rattle.mesh.proofs.Lists.{lt_split}

pub over_filtered : (p : ℕ) (l : List ℕ) → filter (λ a. ltb p a) l ≡ over p l
over_filtered p [] = refl
over_filtered p (a ∷ l) = ap (λ m. cond (ltb p a) (a ∷ m) m) (over_filtered p l)

pub rank_filtered : (p q : ℕ) (l : List ℕ) → length (filter (λ a. ltb p a && ltb a q) l) ≡ below q (over p l)
rank_filtered p q [] = refl
rank_filtered p q (a ∷ l) =
    ⊎_elim
    (λ g. ⊎_elim (λ h. rw (g.0, h.0) (omega (arith, rank_filtered p q l))) (λ h. rw (g.0, h.0) (omega (arith, rank_filtered p q l))) (lt_split a q))
    (λ g. rw g.0 (rank_filtered p q l))
    (lt_split p a)
