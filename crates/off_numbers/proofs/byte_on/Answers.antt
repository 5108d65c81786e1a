-- `byte_on` meets its contract. Assumes nothing.
use native.Mathlib.Omega.{arith}
use Rattle.std.proofs.lemmas.List.{get_or-drop, take_rest}
use Rattle.off_numbers.specs.Text.{byte_at}
use Rattle.off_numbers.proofs.byte_on.Goals as goal

pub returns-clause-value : goal.returns-clause-value
unfolding byte_at
returns-clause-value c =
    rw (c.from.ensures, c.unwrap_or.ensures, c.copied.ensures, c.get.ensures.lookup.4 (omega arith) 0, take_rest, get_or-drop)
