-- What is known where units stand. Assumes nothing.
use mathlib.Core.Path.{◌≡◌, refl, sym}
use mathlib.Core.Bool.{Bool, true, false, cond, ◌&&◌}
use mathlib.Core.List.{List}
use Prim.Native.Nat.{ℕ, ◌+◌, ◌≤◌, ◌<◌}
use native.Mathlib.Nat.{add-zero}
use lib.Dec.{ltb}
use lib.ListN.{length}
use Rattle.std.specs.Prelude.{Some}
use Rattle.std.proofs.lemmas.Option.{cond_some}
use Rattle.mesh.specs.Search.{bit}
use Rattle.mesh.proofs.First.{true_not_false}
use Rattle.off_numbers.specs.Text.{value_at, after_at, is_number, minus_at, is_unit, after_unit}
use Rattle.off_numbers.proofs.Scanning.{number_within}
use Rattle.off_units.specs.Past.{past_unit}

module _ (s : List ℕ) (at last : ℕ) where
  pub unit_within : is_unit s at last ≡ true → 0 < last → after_unit s at ≤ length s
  unfolding is_unit after_unit
  unit_within e h = go (minus_at s at) (is_number s (at + 1) 2147483649 last) refl e
    where
      go : (m b : Bool) → is_number s (at + 1) 2147483649 last ≡ b → cond m (b && ltb 0 (value_at s (at + 1))) (is_number s at 2147483648 last) ≡ true
          → after_at s (at + bit m) ≤ length s
      go true true i e = (number_within s (at + 1) 2147483649 last i h).0
      go true false i e = absurd (true_not_false e refl)
      go false b i e = rw (add-zero at) (number_within s at 2147483648 last e h).0

  pub unit_found : (next : ℕ) → Some next ≡ past_unit s at last → 0 < last → next ≤ length s
  unfolding past_unit
  unit_found next e h = let k = cond_some (is_unit s at last) (after_unit s at) next (sym e) in rw (← k.1) (unit_within k.0 h)
