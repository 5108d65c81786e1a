-- `points::nearest_by_twice` meets its contract. Assumes nothing.
use mathlib.Core.Path.{◌≡◌, ap, ◌∙◌}
use Prim.Native.Nat.{ℕ, ◌+◌, ◌-◌, ◌*◌, ◌/◌, ◌%◌, ◌<◌}
use native.Mathlib.Nat.{div-div-eq-div-mul}
use native.Mathlib.Omega.{arith}
use Rattle.steps.specs.Round.{round_nat}
use Rattle.steps.proofs.Rounding.{round_nat_divided}
use Rattle.units.proofs.points.nearest_by_twice.Goals as goal

-- what is divided, with 2 taken out
halved : (n h : ℕ) → 0 < h → (n + (h - 1) + n / (2 * h) % 2) / (2 * h) ≡ round_nat n (2 * h)
halved n h p =
    ap (λ (x : ℕ). x / (2 * h)) (let e : n + (h - 1) + n / (2 * h) % 2 ≡ (2 * n + (2 * h - 1) + n / (2 * h) % 2) / 2 = omega arith in e)
    ∙ div-div-eq-div-mul (2 * n + (2 * h - 1) + n / (2 * h) % 2) 2 (2 * h)
    ∙ round_nat_divided n (2 * h) (omega arith)

pub returns : goal.returns
returns c = halved c.args.n c.args.h c.requires.fact_3
