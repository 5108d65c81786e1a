-- All but the first k digits stand in the text, and those are the digits of what is left of n.
use Rattle.numerals.proofs.Backward.{Backward}
use Rattle.numerals.proofs.put_digits.Given as goal

abbrev pub invariant-loop-k : goal.invariant-loop-k
invariant-loop-k l = Backward l.initial.text l.at l.n l.k l.rest l.text
