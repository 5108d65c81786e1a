-- To be believed.
-- What the two structs of the C interface say on paper.
-- Assumes nothing.
use Rattle.rings.specs.Refusal.{Paper}
use Rattle.c_answers.specs.declared.CountsAnswer.{CountsAnswer}
use Rattle.c_answers.specs.declared.ValueAnswer.{ValueAnswer}

-- number, place, V, E and F
abbrev pub counts_paper : CountsAnswer → Paper
counts_paper a = record { number = a.number; place = a.place; first = a.v; second = a.e; third = a.f }

-- number, place and one value
abbrev pub value_paper : ValueAnswer → Paper
value_paper a = record { number = a.number; place = a.place; first = a.value; second = 0; third = 0 }
