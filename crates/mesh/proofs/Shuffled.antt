-- Lists with the same entries in another order: how often each stands there, and how many are below a number, are the same.
-- Assumes nothing.
use mathlib.Core.Path.{◌≡◌, refl, sym, ap, ap₂, ◌∙◌}
use mathlib.Core.Bool.{Bool, true, false, cond}
use mathlib.Core.List.Permᴰ
use mathlib.Core.List.{List, ◌∷◌, map, Permᴰ}
use Prim.Native.Nat.{ℕ, suc, ◌+◌}
use native.Mathlib.Omega.{arith}
use lib.Dec.{eqb, ltb}
use lib.ListN.{length}
use Rattle.mesh.specs.Search.{bit}
use Rattle.mesh.specs.Ring.{times, ◌∈◌, Distinct}
use Rattle.mesh.specs.Numbering.{below}
use Rattle.mesh.specs.Mesh.{over}

add_exchanged : (i j n : ℕ) → i + (j + n) ≡ j + (i + n)
add_exchanged i j n = omega arith

pub times_shuffled : (x : ℕ) {l m : List ℕ} → Permᴰ l m → times x l ≡ times x m
times_shuffled x Permᴰ.nil = refl
times_shuffled x (Permᴰ.cons e p) = ap₂ (λ a n. bit (eqb x a) + n) e (times_shuffled x p)
times_shuffled x (Permᴰ.swap {a = a} {b = b} {l = l} e f) = rw (sym e, sym f) (add_exchanged (bit (eqb x a)) (bit (eqb x b)) (times x l))
times_shuffled x (Permᴰ.trans p q) = times_shuffled x p ∙ times_shuffled x q

pub length_shuffled : {l m : List ℕ} → Permᴰ l m → length l ≡ length m
length_shuffled Permᴰ.nil = refl
length_shuffled (Permᴰ.cons e p) = ap suc (length_shuffled p)
length_shuffled (Permᴰ.swap d e) = refl
length_shuffled (Permᴰ.trans p q) = length_shuffled p ∙ length_shuffled q

pub in_shuffled : (x : ℕ) {l m : List ℕ} → Permᴰ l m → x ∈ l → x ∈ m
in_shuffled x p i = omega (arith, times_shuffled x p)

pub distinct_shuffled : {l m : List ℕ} → Permᴰ l m → Distinct l → Distinct m
distinct_shuffled p o x = omega (arith, times_shuffled x p, o x)

pub map_shuffled : {A B : Type 0} (f : A → B) {l m : List A} → Permᴰ l m → Permᴰ (map f l) (map f m)
map_shuffled f Permᴰ.nil = Permᴰ.nil
map_shuffled f (Permᴰ.cons e p) = Permᴰ.cons (ap f e) (map_shuffled f p)
map_shuffled f (Permᴰ.swap d e) = Permᴰ.swap (ap f d) (ap f e)
map_shuffled f (Permᴰ.trans p q) = Permᴰ.trans (map_shuffled f p) (map_shuffled f q)

-- ---- as entries are numbered

pub below_shuffled : (k : ℕ) {l m : List ℕ} → Permᴰ l m → below k l ≡ below k m
below_shuffled k Permᴰ.nil = refl
below_shuffled k (Permᴰ.cons e p) = ap₂ (λ a n. bit (ltb a k) + n) e (below_shuffled k p)
below_shuffled k (Permᴰ.swap {a = a} {b = b} {l = l} e f) = rw (sym e, sym f) (add_exchanged (bit (ltb a k)) (bit (ltb b k)) (below k l))
below_shuffled k (Permᴰ.trans p q) = below_shuffled k p ∙ below_shuffled k q

pub over_shuffled : (p : ℕ) {l m : List ℕ} → Permᴰ l m → Permᴰ (over p l) (over p m)
over_shuffled p Permᴰ.nil = Permᴰ.nil
over_shuffled p (Permᴰ.cons {a = a} {l₁ = l} {l₂ = m} e q) = rw (sym e) (go (ltb p a) (over_shuffled p q))
  where
    go : (b : Bool) → Permᴰ (over p l) (over p m) → Permᴰ (cond b (a ∷ over p l) (over p l)) (cond b (a ∷ over p m) (over p m))
    go true r = Permᴰ.cons refl r
    go false r = r
over_shuffled p (Permᴰ.swap {a = a} {b = b} {l = l} e f) = rw (sym e, sym f) (go (ltb p a) (ltb p b))
  where
    go : (c d : Bool)
        → Permᴰ (cond c (a ∷ cond d (b ∷ over p l) (over p l)) (cond d (b ∷ over p l) (over p l)))
        (cond d (b ∷ cond c (a ∷ over p l) (over p l)) (cond c (a ∷ over p l) (over p l)))
    go true true = Permᴰ.swap refl refl
    go true false = Permᴰ.refl (a ∷ over p l)
    go false true = Permᴰ.refl (b ∷ over p l)
    go false false = Permᴰ.refl (over p l)
over_shuffled p (Permᴰ.trans q r) = Permᴰ.trans (over_shuffled p q) (over_shuffled p r)
