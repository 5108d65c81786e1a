-- `row_of` meets its contract. Assumes nothing.
use mathlib.Core.Path.{◌≡◌, ap, ◌∙◌}
use Prim.Native.Nat.{ℕ, ◌+◌, ◌-◌, ◌*◌, ◌≤◌}
use mathlib.Core.List.{List}
use lib.ListN.{length, take, drop, length-take, length-drop}
use native.Mathlib.Omega.{arith}
use Rattle.loop_halves.proofs.rows.row_of.Goals as goal

part_is : (t : List ℕ) (a n : ℕ) → a + n ≤ length t → (take (a + n - a) (drop a t) ≡ take n (drop a t)) × (length (take (a + n - a) (drop a t)) ≡ n)
part_is t a n h =
    let e : a + n - a ≡ n = omega arith in
    let f : length (take n (drop a t)) ≡ n = simp (length-take, length-drop) (omega arith) in
    (ap (λ (k : ℕ). take k (drop a t)) e, ap (λ (k : ℕ). length (take k (drop a t))) e ∙ f)

pub returns : goal.returns
returns c =
    let t = part_is c.args.rings.now (c.args.p * 32) c.args.n c.requires.n_in_bounds in
    record { result_value = t.0; result_len = t.1 }
