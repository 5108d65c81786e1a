-- What is known where a judge finds a number. Assumes nothing.
use mathlib.Core.Path.{◌≡◌, sym}
use mathlib.Core.List.{List}
use Prim.Native.Nat.{ℕ, ◌≤◌, ◌<◌}
use lib.ListN.{length}
use Rattle.std.specs.Prelude.{Some}
use Rattle.std.proofs.lemmas.Option.{cond_some}
use Rattle.off_numbers.specs.declared.Number.{Number}
use Rattle.off_numbers.specs.Text.{value_at, after_at, is_number, number_at}
use Rattle.off_numbers.proofs.Scanning.{number_within}

-- a number that is found lies within the text
pub number_found : (s : List ℕ) (at bound last : ℕ) (n : Number) → Some n ≡ number_at s at bound last → 0 < last → (n.next ≤ length s) × (n.value < bound)
unfolding number_at
number_found s at bound last n e h =
    let k = cond_some (is_number s at bound last) (record { value = value_at s at; next = after_at s at }) n (sym e) in
    rw (← k.1) (number_within s at bound last k.0 h)
