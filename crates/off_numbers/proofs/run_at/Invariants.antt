use Rattle.off_numbers.proofs.Scanning.{Scan}
use Rattle.off_numbers.proofs.run_at.Given as goal

abbrev pub invariant-loop-count : goal.invariant-loop-count
invariant-loop-count l = Scan l.text l.at l.count l.value
