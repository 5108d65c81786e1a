-- `gather_faces` meets its contract: so far the rows keep what the faces passed give. Assumes nothing.
use Rattle.std.proofs.Common.{rules}
use Rattle.off_gather.proofs.Rows.{gathered_none}
use Rattle.off_gather.proofs.gather_faces.Goals as goal

pub loop-i-init : goal.loop-i-init
loop-i-init c = search (rules, gathered_none)
