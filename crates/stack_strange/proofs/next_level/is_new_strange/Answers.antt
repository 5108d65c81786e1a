-- `is_new_strange` meets its contract. Assumes nothing.
use native.Mathlib.Omega.{arith}
use Rattle.rings.specs.Table.{ring_of}
use Rattle.stack_strange.specs.Expected.{strange_next, other_than}
use Rattle.stack_strange.proofs.NextRows.{new_below, new_is, new_length}
use Rattle.stack_strange.proofs.next_level.is_new_strange.Goals as goal

pub bounds-valences-count : goal.bounds-valences-count
bounds-valences-count c = omega (arith, new_below c.requires.ready c.requires.p_lt_count c.requires.i_bound c.requires.p_bound c.requires.x_value)

pub differs_new-requires-clause-most_valence_in_bounds : goal.differs_new-requires-clause-most_valence_in_bounds
differs_new-requires-clause-most_valence_in_bounds c =
    omega (arith, new_below c.requires.ready c.requires.p_lt_count c.requires.i_bound c.requires.p_bound c.requires.x_value)

pub has_beyond-requires : goal.has_beyond-requires
has_beyond-requires c =
    omega (arith, new_below c.requires.ready c.requires.p_lt_count c.requires.i_bound c.requires.p_bound c.requires.x_value)

pub returns-then-differs_new : goal.returns-then-differs_new
unfolding strange_next other_than ring_of
returns-then-differs_new c =
    grind (arith, new_is c.requires.ready c.requires.p_lt_count c.requires.i_bound c.requires.p_bound c.requires.x_value, new_length c.requires.ready c.requires.p_lt_count c.requires.i_bound c.requires.p_bound c.requires.x_value)

pub returns-else-differs_new : goal.returns-else-differs_new
unfolding strange_next other_than ring_of
returns-else-differs_new c =
    grind (arith, new_is c.requires.ready c.requires.p_lt_count c.requires.i_bound c.requires.p_bound c.requires.x_value, new_length c.requires.ready c.requires.p_lt_count c.requires.i_bound c.requires.p_bound c.requires.x_value)
