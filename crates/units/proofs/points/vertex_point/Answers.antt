-- `points::vertex_point` meets its contract. Assumes nothing.
use mathlib.Core.Path.{◌≡◌, refl, sym, ap, subst, ◌∙◌}
use mathlib.Core.Bool.{Bool, cond}
use Prim.Native.Nat.{ℕ, ◌+◌, ◌*◌}
use native.Mathlib.Omega.{arith}
use borrow.Author.Tests.{eq-eqb, ne_eqb}
use lib.Dec.{lit<}
use lib.IntN.{ℤ, pos, sub_ℕ, ◌+ℤ◌, ◌*ℤ◌}
use mir.Syntax.{w32}
use mir.Val.{to_z, of_z}
use Rattle.steps.specs.Round.{Is, rounded}
use Rattle.steps.proofs.Ints.{plus, times, self}
use Rattle.units.specs.Coordinate.{InRange, offset}
use Rattle.units.specs.Points.{vertex_point}
use Rattle.units.proofs.Coordinates.{from, mean_is, rounded_factor}
use Rattle.units.proofs.points.vertex_point.Goals as goal

three : (n : ℕ) (v s : ℤ) → n ≡ 3 → vertex_point n v s ≡ rounded (pos 7 *ℤ v +ℤ pos 3 *ℤ s) 16
unfolding vertex_point
three n v s e = ap (λ (t : Bool). cond t (rounded (pos 7 *ℤ v +ℤ pos 3 *ℤ s) 16) (rounded (pos (5 * n) *ℤ v +ℤ pos 3 *ℤ s) (8 * n))) (eq-eqb n 3 e)

other : (n : ℕ) (v s : ℤ) → (n ≡ 3 → ⊥) → vertex_point n v s ≡ rounded (pos (5 * n) *ℤ v +ℤ pos 3 *ℤ s) (8 * n)
unfolding vertex_point
other n v s e = ap (λ (t : Bool). cond t (rounded (pos 7 *ℤ v +ℤ pos 3 *ℤ s) 16) (rounded (pos (5 * n) *ℤ v +ℤ pos 3 *ℤ s) (8 * n))) (ne_eqb n 3 e)

-- with six neighbours the fraction is (30v + 3s) / 48, from which 3 can be taken out
six : (n : ℕ) (v s : ℤ) → n ≡ 6 → vertex_point n v s ≡ rounded (pos 30 *ℤ v +ℤ pos 3 *ℤ s) 48
unfolding vertex_point
six n v s e = ap (λ (k : ℕ). vertex_point k v s) e

sixteenths : {r : ℤ} (w s : ℕ) → (r ≡ rounded (sub_ℕ (10 * w + s) (offset * 16)) 16) × InRange r
    → (r ≡ rounded (sub_ℕ (30 * w + 3 * s) (offset * 48)) 48) × InRange r
sixteenths w s h =
    let e : 3 * (10 * w + s) ≡ 30 * w + 3 * s = omega arith in
    (h.0 ∙ rounded_factor 3 (10 * w + s) offset 16 (lit< tt) (lit< tt) refl ∙ ap (λ (k : ℕ). rounded (sub_ℕ k (offset * 48)) 48) e, h.1)

-- the divisor as the formula has it
eighths : {r : ℤ} (m n : ℕ) → (r ≡ rounded (sub_ℕ m (offset * (2 * (4 * n)))) (2 * (4 * n))) × InRange r → (r ≡ rounded (sub_ℕ m (offset * (8 * n))) (8 * n)) × InRange r
eighths {r} m n h = let e : 2 * (4 * n) ≡ 8 * n = omega arith in subst (λ (d : ℕ). (r ≡ rounded (sub_ℕ m (offset * d)) d) × InRange r) e h

-- what a call of `coordinate` gives where v has the weight k, and each of its n neighbours the weight 3
by_weights : {v r : ℤ} {w : ℕ} (k d n s : ℕ) → k * offset + 3 * (n * offset) ≡ offset * d → Is v w offset
    → (r ≡ rounded (sub_ℕ (k * w + 3 * s) (offset * d)) d) × InRange r
    → (to_z w32 (of_z w32 r) ≡ rounded (pos k *ℤ v +ℤ pos 3 *ℤ sub_ℕ s (n * offset)) d) × InRange (to_z w32 (of_z w32 r))
by_weights k d n s e i h = mean_is offset d e (plus (times k i) (times 3 (self s (n * offset)))) h

pub returns-then-n-eq3 : goal.returns-then-n-eq3
returns-then-n-eq3 c =
    let n = c.args.n in
    let v = c.args.v in
    let s = c.args.s in
    let e : n ≡ 3 = c.if-n-eq3.true in
    let g = by_weights 7 16 n s (omega arith) (from v c.requires.fact_3 c.biased-w.ensures) c.coordinate.ensures in
    (g.0 ∙ sym (three n v (sub_ℕ s (n * offset)) e), g.1)

pub returns-then-n-eq6 : goal.returns-then-n-eq6
returns-then-n-eq6 c =
    let n = c.args.n in
    let v = c.args.v in
    let s = c.args.s in
    let e : n ≡ 6 = c.if-n-eq6.true in
    let g = by_weights 30 48 n s (omega arith) (from v c.requires.fact_3 c.biased-w.ensures) (sixteenths c.biased-w.result s c.coordinate-then-n-eq6.ensures) in
    (g.0 ∙ sym (six n v (sub_ℕ s (n * offset)) e), g.1)

pub returns : goal.returns
returns c =
    let n = c.args.n in
    let v = c.args.v in
    let s = c.args.s in
    let g = by_weights (5 * n) (8 * n) n s (omega arith) (from v c.requires.fact_3 c.biased-w.ensures) (eighths (5 * n * c.biased-w.result + 3 * s) n c.coordinate-2.ensures) in
    (g.0 ∙ sym (other n v (sub_ℕ s (n * offset)) c.if-n-eq3.false), g.1)
