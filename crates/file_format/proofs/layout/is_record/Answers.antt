-- `is_record` meets its contract. Assumes nothing.
use native.Mathlib.Omega.{arith}
use Rattle.std.proofs.lemmas.Grind.{common_steps}
use Rattle.file_format.proofs.Finding.{by_found}
use Rattle.file_format.proofs.layout.is_record.Goals as goal

pub returns-in-Some : goal.returns-in-Some
returns-in-Some c = grind (arith, common_steps, by_found _ _ c.args.wanted c.args.size _ c.in-Some.ensures)

pub returns-in_default : goal.returns-in_default
returns-in_default c = grind (arith, common_steps, by_found _ _ c.args.wanted c.args.size _ c.in-Some.ensures)

pub returns-in_default-2 : goal.returns-in_default-2
returns-in_default-2 c = grind (arith, common_steps, by_found _ _ c.args.wanted c.args.size _ c.in-Some.ensures)

pub returns-in_default-3 : goal.returns-in_default-3
returns-in_default-3 c = grind (arith, common_steps, by_found _ _ c.args.wanted c.args.size _ c.in_default.ensures)
