-- The rank of an edge p, q among those of p, as a loop over the places of p's ring counts it.
-- Assumes nothing.
use mathlib.Core.Path.{◌≡◌, refl, sym, ap, ◌∙◌}
use mathlib.Core.Bool.{cond}
use mathlib.Core.List.{List, [], ◌∷◌, ◌++◌}
use mathlib.Core.Logic.{⊎_elim}
use Prim.Native.Nat.{ℕ, suc, ◌+◌, ◌≤◌, ◌<◌}
use native.Mathlib.Nat.{zero-add}
use native.Mathlib.Numerals.{add-one}
use native.Mathlib.Omega.{arith}
use lib.Dec.{ltb}
use lib.ListN.{length, get_or, take}
use lib.Seq.{take-suc}
use borrow.Author.Tests.{lt-ltb, le-ltb}
use Rattle.mesh.specs.Search.{bit}
use Rattle.mesh.specs.Numbering.{below}
use Rattle.mesh.specs.Mesh.{over}
use Rattle.mesh.proofs.Lists.{lt_split}

pub below_append : (k : ℕ) (s t : List ℕ) → below k (s ++ t) ≡ below k s + below k t
below_append k [] t = sym (zero-add (below k t))
below_append k (a ∷ s) t = omega (arith, below_append k s t)

pub over_append : (p : ℕ) (s t : List ℕ) → over p (s ++ t) ≡ over p s ++ over p t
over_append p [] t = refl
over_append p (a ∷ s) t = ⊎_elim (λ h. rw h.0 (ap (λ l. a ∷ l) (over_append p s t))) (λ h. rw h.0 (over_append p s t)) (lt_split p a)

-- the rank of q among the entries over p, one place further: the loop that numbers an edge
pub rank_step : (p q : ℕ) (l : List ℕ) (i : ℕ) → i < length l
    → below q (over p (take (suc i) l)) ≡ below q (over p (take i l)) + cond (ltb p (get_or l i 0)) (bit (ltb (get_or l i 0) q)) 0
rank_step p q l i h =
    let a : ℕ = get_or l i 0 in
    ap (λ x. below q (over p x)) (take-suc l i 0 h) ∙ ap (below q) (over_append p (take i l) (a ∷ [])) ∙ below_append q (over p (take i l)) (over p (a ∷ []))
    ∙ ⊎_elim (λ g. rw g.0 (omega arith)) (λ g. rw g.0) (lt_split p a)

-- the same as a loop's step has it: at i + 1, by what the tests told
module _ (p q : ℕ) (l : List ℕ) (i : ℕ) (h : i < length l) where
  pub rank_in : p < get_or l i 0 → get_or l i 0 < q → below q (over p (take (i + 1) l)) ≡ below q (over p (take i l)) + 1
  rank_in a b = rw (add-one i, rank_step p q l i h, lt-ltb p (get_or l i 0) a, lt-ltb (get_or l i 0) q b)

  pub rank_low : get_or l i 0 ≤ p → below q (over p (take (i + 1) l)) ≡ below q (over p (take i l))
  rank_low a = rw (add-one i, rank_step p q l i h, le-ltb p (get_or l i 0) a) (omega arith)

  pub rank_high : p < get_or l i 0 → q ≤ get_or l i 0 → below q (over p (take (i + 1) l)) ≡ below q (over p (take i l))
  rank_high a b = rw (add-one i, rank_step p q l i h, lt-ltb p (get_or l i 0) a, le-ltb (get_or l i 0) q b) (omega arith)
