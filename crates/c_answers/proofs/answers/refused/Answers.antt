-- `refused` meets its contract. Assumes nothing.
use Rattle.c_answers.proofs.Crossed.{as_refused}
use Rattle.c_answers.proofs.answers.refused.Goals as goal

pub returns : goal.returns
returns c = as_refused c.args.refusal c.args.value c.number.ensures c.place.ensures
