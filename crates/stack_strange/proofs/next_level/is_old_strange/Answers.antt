-- `is_old_strange` meets its contract. Assumes nothing.
use native.Mathlib.Omega.{arith}
use Rattle.stack_strange.specs.Expected.{strange_next, other_than}
use Rattle.stack_strange.proofs.NextRows.{want_length}
use Rattle.stack_strange.proofs.next_level.is_old_strange.Goals as goal

pub returns-then-differs_old : goal.returns-then-differs_old
unfolding strange_next other_than
returns-then-differs_old c = grind (arith, want_length c.requires.ready c.requires.p_lt_count)

pub returns-else-differs_old : goal.returns-else-differs_old
unfolding strange_next other_than
returns-else-differs_old c = grind (arith, want_length c.requires.ready c.requires.p_lt_count)
