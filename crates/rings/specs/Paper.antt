-- To be believed.
-- What the answers of edits, of counting calls and of calls with one number say on paper: number, place and values. Where a call is refused its values are 0.
-- Assumes nothing.
use Rattle.rings.specs.Refusal.{Paper, accepted, reason, Amount, Counted, Verdict}
use Rattle.std.specs.Prelude.{Ok, Err}

-- what a ring edit gives
abbrev pub paper_verdict : Verdict → Paper
paper_verdict (Ok u) = accepted 0 0 0
paper_verdict (Err r) = reason r 0

-- what the check and refinement give
abbrev pub paper_counted : Counted → Paper
paper_counted (Ok c) = accepted c.v c.e c.f
paper_counted (Err r) = reason r 0

-- what a call gives that answers one number
abbrev pub paper_amount : Amount → Paper
paper_amount (Ok n) = accepted n 0 0
paper_amount (Err r) = reason r 0
