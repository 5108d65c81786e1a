-- `two_at` meets its contract. Assumes nothing.
use native.Mathlib.Omega.{arith}
use Rattle.file_format.proofs.Numbers.{number_two}
use Rattle.file_format.proofs.bytes.two_at.Goals as goal

pub returns-clause-value : goal.returns-clause-value
returns-clause-value c = omega (arith, number_two _ _ c.requires, c.from_le_bytes.ensures, c.from.ensures)
