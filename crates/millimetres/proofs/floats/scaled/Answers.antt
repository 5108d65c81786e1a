-- `floats::scaled` meets its contract. Assumes nothing.
use mathlib.Core.Path.{◌≡◌, sym, ap, ◌∙◌, subst}
use mathlib.Core.Bool.{Bool, true, false}
use Prim.Native.Nat.{ℕ, ◌+◌, ◌*◌, ◌/◌, ◌%◌, ◌^◌, ◌≤◌}
use native.Mathlib.Nat.{add-mul}
use native.Mathlib.Omega.{arith}
use lib.Pow.{pow_pos}
use lib.IntN.{sub_ℕ}
use Rattle.mesh.specs.Limits.{most_units}
use Rattle.steps.specs.Round.{rounded, round_nat}
use Rattle.steps.proofs.Rounding.{round_nat_le}
use Rattle.units.specs.Coordinate.{InRange}
use Rattle.units.proofs.Coordinates.{there}
use Rattle.millimetres.specs.Millimetres.{signed, toward}
use Rattle.millimetres.proofs.Signed.{rounded_signed, rounded_in}
use Rattle.millimetres.proofs.FloatsInUnits.{lift, one_is, one_lt, whole_is, whole_even, whole_le}
use Rattle.millimetres.proofs.floats.scaled.Goals as goal

toward_le : (s : Bool) (t n : ℕ) → toward s t n ≤ t + n
toward_le true t n = omega arith
toward_le false t n = omega arith

-- the number that `nearest` is handed, and its result's bound
top_le : (s : Bool) (n k : ℕ) → k ≤ 53 → n ≤ most_units * 2 ^ k → toward s lift n ≤ (lift / 2 ^ k + most_units) * 2 ^ k
top_le s n k h l =
    let e : (lift / 2 ^ k + most_units) * 2 ^ k ≡ lift / 2 ^ k * 2 ^ k + most_units * 2 ^ k = add-mul (lift / 2 ^ k) most_units (2 ^ k) in
    omega (arith, whole_is k h, toward_le s lift n)

pub nearest-requires : goal.nearest-requires
nearest-requires c =
    let k = c.args.shift in
    let h = c.requires.fact_3 in
    record { fact_1 = omega (arith, c.lifted-n.ensures, toward_le c.args.negative lift c.args.digits, one_is k h, one_lt k h, pow_pos k); fact_2 = omega (arith, c.lifted-n.ensures, toward_le c.args.negative lift c.args.digits, one_is k h, one_lt k h, pow_pos k); fact_3 = omega (arith, c.lifted-n.ensures, toward_le c.args.negative lift c.args.digits, one_is k h, one_lt k h, pow_pos k) }

pub difference-requires : goal.difference-requires
difference-requires c =
    let k = c.args.shift in
    let h = c.requires.fact_3 in
    let n = toward c.args.negative lift c.args.digits in
    let e : c.nearest.result ≡ round_nat n (2 ^ k) =
    c.nearest.ensures ∙ ap (λ (m : ℕ). round_nat m ((1 * 2 ^ k) % 18446744073709551616)) c.lifted-n.ensures ∙ ap (round_nat n) (one_is k h) in
    record { fact_1 = omega (arith, e, round_nat_le (lift / 2 ^ k + most_units) n (2 ^ k) (pow_pos k) (top_le c.args.negative c.args.digits k h c.requires.fact_4), whole_le k c.requires.fact_2 h); fact_2 = omega (arith, e, round_nat_le (lift / 2 ^ k + most_units) n (2 ^ k) (pow_pos k) (top_le c.args.negative c.args.digits k h c.requires.fact_4), whole_le k c.requires.fact_2 h) }

pub returns : goal.returns
returns c =
    let s = c.args.negative in
    let d = c.args.digits in
    let k = c.args.shift in
    let h = c.requires.fact_3 in
    let w = lift / 2 ^ k in
    let p = c.requires.fact_4 in
    let e : c.nearest.result ≡ round_nat (toward s (w * 2 ^ k) d) (2 ^ k)
    =
    c.nearest.ensures
    ∙ ap (λ (m : ℕ). round_nat m ((1 * 2 ^ k) % 18446744073709551616)) c.lifted-n.ensures
    ∙ ap (round_nat (toward s lift d)) (one_is k h)
    ∙ ap (λ (t : ℕ). round_nat (toward s t d) (2 ^ k)) (sym (whole_is k h)) in
    let q : c.difference.result ≡ rounded (signed s d) (2 ^ k)
    = c.difference.ensures ∙ ap (λ (m : ℕ). sub_ℕ m w) e ∙ sym (rounded_signed s d (2 ^ k) w (pow_pos k) (whole_even k h) (omega (arith, whole_is k h))) in
    let i = subst InRange (sym q) (rounded_in s d (2 ^ k) (pow_pos k) p) in
    let r = there c.difference.result i in
    (r ∙ q, subst InRange (sym r) i)
