-- `read_fours` meets its contract. Assumes nothing.
use mathlib.Core.Path.{◌≡◌, refl, ap}
use mathlib.Core.List.{List}
use native.Mathlib.Omega.{arith}
use Prim.Native.Nat.{ℕ, ◌+◌, ◌-◌, ◌*◌, ◌/◌, ◌≤◌, ◌<◌}
use Rattle.file_format.specs.Layout.{neighbour_at}
use Rattle.file_format.specs.Blocks.{Put, gather_from}
use Rattle.file_format.proofs.Blocks.{from_none, fours_last, put_is}
use Rattle.file_rings.proofs.reading.read_fours.Goals as goal

-- the first k fours of n neighbours are all that are whole
all_read : {l m : List ℕ} {i : ℕ} (f : ℕ → List ℕ) (n k : ℕ) → 4 * k ≤ n → n < 4 * k + 4 → Put l i (gather_from f 4 (4 * k - 4)) m
    → Put l i (gather_from f 4 ((n - 4) / 4 * 4)) m
all_read f n k most more p = put_is (ap (gather_from f 4) (let e : 4 * k - 4 ≡ (n - 4) / 4 * 4 = omega arith in e)) p

pub loop-k-init : goal.loop-k-init
loop-k-init c = record { put = from_none (neighbour_at c.args.bytes.now c.args.from) 4 (omega arith); within = omega arith }

pub loop-k-preserved : goal.loop-k-preserved
loop-k-preserved c = record {
  put = fours_last (neighbour_at c.args.bytes.now c.args.from) 1 (λ i. refl) _ _ (omega arith) c.loop-k.invariant.put c.read_four.ensures
      (omega arith) (omega arith);
  within = omega arith;
}

pub returns-then-n-k : goal.returns-then-n-k
returns-then-n-k c = all_read _ c.args.n c.loop-k.k c.loop-k.invariant.within (omega arith) c.loop-k.invariant.put

pub returns-after-loop-k : goal.returns-after-loop-k
returns-after-loop-k c =
    all_read _ c.args.n c.loop-k.k c.loop-k.invariant.within (omega (arith, c.requires.n_le_most)) c.loop-k.invariant.put
