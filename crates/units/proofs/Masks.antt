-- Loop's two masks give document 01's two formulas. Assumes nothing.
use mathlib.Core.Path.{◌≡◌, sym, ap, ap₂, ◌∙◌}
use mathlib.Core.Bool.{Bool, true, false, cond}
use mathlib.Core.List.{List, [], ◌∷◌, map}
use Prim.Native.Nat.{ℕ, suc, ◌+◌, ◌*◌}
use native.Mathlib.Nat.{mul-add}
use native.Mathlib.Omega.{arith}
use lib.Dec.{eqb}
use lib.IntN.{ℤ, pos, negsuc, ◌+ℤ◌, ◌*ℤ◌, *ℤ-zero}
use lib.ListN.{length}
use Rattle.steps.specs.Round.{Is, rounded}
use Rattle.steps.specs.Mask.{weighted, by_mask, term}
use Rattle.steps.proofs.Ints.{sub_neg, sub_eq, plus, times, self_pos}
use Rattle.loop_step.specs.Loop.{vertex_mask, edge_mask}
use Rattle.units.specs.Points.{edge_point, vertex_point, ring_sum}

-- every whole number is a difference of two natural ones
record Whole (z : ℤ) : Type 0 where
  up : ℕ
  down : ℕ
  is : Is z up down

whole : (z : ℤ) → Whole z
whole (pos k) = record { up = k; down = 0; is = self_pos k }
whole (negsuc k) = record { up = 0; down = suc k; is = record { is = sym (sub_neg 0 (suc k) k (omega arith)) } }

same : {x y : ℤ} {a b c d : ℕ} → Is x a b → Is y c d → a + d ≡ c + b → x ≡ y
same {a = a} {b} {c} {d} p q e = p.is ∙ sub_eq a b c d e ∙ sym q.is

edge_sum : (p q a b : ℤ) → pos 3 *ℤ p +ℤ (pos 3 *ℤ q +ℤ (pos 1 *ℤ a +ℤ (pos 1 *ℤ b +ℤ pos 0))) ≡ pos 3 *ℤ (p +ℤ q) +ℤ a +ℤ b
edge_sum p q a b =
    let p' = whole p in
    let q' = whole q in
    let a' = whole a in
    let b' = whole b in
    same (plus (times 3 p'.is) (plus (times 3 q'.is) (plus (times 1 a'.is) (plus (times 1 b'.is) (self_pos 0)))))
    (plus (plus (times 3 (plus p'.is q'.is)) a'.is) b'.is) (omega arith)

shared : (k : ℕ) (x y : ℤ) → pos k *ℤ x +ℤ pos k *ℤ y ≡ pos k *ℤ (x +ℤ y)
shared k x y =
    let x' = whole x in
    let y' = whole y in
    let up : k * (x'.up + y'.up) ≡ k * x'.up + k * y'.up = mul-add k x'.up y'.up in
    let down : k * (x'.down + y'.down) ≡ k * x'.down + k * y'.down = mul-add k x'.down y'.down in
    same (plus (times k x'.is) (times k y'.is)) (times k (plus x'.is y'.is)) (ap₂ ◌+◌ (sym up) down)

-- where each vertex of a ring has the same weight, it can be taken out
pub ring_sum_lem : (k : ℕ) (at : ℕ → ℤ) (ring : List ℕ) → weighted (map (term k) ring) at ≡ pos k *ℤ ring_sum at ring
ring_sum_lem k at [] = sym (*ℤ-zero (pos k))
ring_sum_lem k at (u ∷ ring) = ap (λ (z : ℤ). pos k *ℤ at u +ℤ z) (ring_sum_lem k at ring) ∙ shared k (at u) (ring_sum at ring)

-- (3(p + q) + a + b) / 8
pub edge_mask_lem : (p q a b : ℕ) (at : ℕ → ℤ) → by_mask (edge_mask p q a b) at ≡ edge_point (at p) (at q) (at a) (at b)
unfolding by_mask edge_point
edge_mask_lem p q a b at = ap (λ (z : ℤ). rounded z 8) (edge_sum (at p) (at q) (at a) (at b))

-- (7v + 3s) / 16 if n = 3, else (5nv + 3s) / 8n
pub vertex_mask_lem : (v : ℕ) (ring : List ℕ) (at : ℕ → ℤ) → by_mask (vertex_mask v ring) at ≡ vertex_point (length ring) (at v) (ring_sum at ring)
unfolding by_mask vertex_point
vertex_mask_lem v ring at = go (eqb n 3)
  where
    n : ℕ
    n = length ring

    go : (b : Bool) → rounded (pos (cond b 7 (5 * n)) *ℤ at v +ℤ weighted (map (term 3) ring) at) (cond b 16 (8 * n))
        ≡ cond b (rounded (pos 7 *ℤ at v +ℤ pos 3 *ℤ ring_sum at ring) 16) (rounded (pos (5 * n) *ℤ at v +ℤ pos 3 *ℤ ring_sum at ring) (8 * n))
    go true = ap (λ (z : ℤ). rounded (pos 7 *ℤ at v +ℤ z) 16) (ring_sum_lem 3 at ring)
    go false = ap (λ (z : ℤ). rounded (pos (5 * n) *ℤ at v +ℤ z) (8 * n)) (ring_sum_lem 3 at ring)
