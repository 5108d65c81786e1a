-- Two lists compared place by place. Assumes nothing.
use Prim.Native.Nat.{ℕ}
use mathlib.Core.Path.{◌≡◌, refl, sym, ap, ap₂, ◌∙◌}
use mathlib.Core.Bool.{Bool, true, false, not, ◌&&◌}
use mathlib.Core.List.{List, [], ◌∷◌}
use native.Mathlib.Omega.{arith}
use lib.Dec.{eqb}
use lib.ListN.{length, get_or}
use lib.Seq.{ext_get_or}
use borrow.Author.Tests.{eq-eqb, eqb-true}
use Rattle.mesh.specs.Search.{first, some}
use Rattle.mesh.proofs.First.{true_not_false, by_cases, some_at, some_all}
use Rattle.stack_strange.specs.Expected.{same_list}

pub and_true : (a b : Bool) → a && b ≡ true → (a ≡ true) × (b ≡ true)
and_true true b e = (refl, e)
and_true false b e = absurd (true_not_false e refl)

pub same_self : (l : List ℕ) → same_list l l ≡ true
same_self [] = refl
same_self (a ∷ l) = rw (eq-eqb a a refl) (same_self l)

pub same_only : (l m : List ℕ) → same_list l m ≡ true → l ≡ m
same_only [] [] e = refl
same_only [] (b ∷ m) e = absurd (true_not_false e refl)
same_only (a ∷ l) [] e = absurd (true_not_false e refl)
same_only (a ∷ l) (b ∷ m) e = let t = and_true (eqb a b) (same_list l m) e in ap₂ (λ (x : ℕ) (y : List ℕ). x ∷ y) (eqb-true a b t.0) (same_only l m t.1)

pub not_false : (b : Bool) → not b ≡ false → b ≡ true
not_false true e = refl
not_false false e = absurd (true_not_false refl e)

-- two lists of one length differ where some place does
pub differ_some : (l m : List ℕ) {n : ℕ} → length l ≡ n → length m ≡ n → some (λ i. not (eqb (get_or l i 0) (get_or m i 0))) n ≡ not (same_list l m)
differ_some l m {n} e f = go (some p n) refl
  where
    p : ℕ → Bool
    p i = not (eqb (get_or l i 0) (get_or m i 0))

    go : (b : Bool) → some p n ≡ b → some p n ≡ not (same_list l m)
    go true s =
        let i = first p n in
        let a : p i ≡ true = (some_at p n s).1 in
        s ∙ rw (by_cases (same_list l m) (λ q. let z = rw (eq-eqb (get_or l i 0) (get_or m i 0) (ap (λ t. get_or t i 0) (same_only l m q))) at a in cc))
    go false s =
        let all = some_all p n s in
        s ∙ rw (ext_get_or 0 l m (e ∙ sym f) (λ k g. eqb-true _ _ (not_false _ (all.below k (omega arith)))), same_self m)
