-- `cannot_flip` meets its contract. Assumes nothing.
use native.Mathlib.Omega.{arith}
use Rattle.reshape_edge.proofs.EdgesJudged.{lesser_row, greater_row, beyond_row, lesser_of_three, greater_of_three, joined_or_not}
use Rattle.reshape_edge.proofs.cannot_flip.Goals as goal

pub bounds-valences-p : goal.bounds-valences-p
bounds-valences-p c = lesser_row c.requires

pub overflow_cast-valences : goal.overflow_cast-valences
overflow_cast-valences c = omega (arith, c.type_inv.valences c.args.p)

pub returns-then-valences-p-le-LEAST_VALENCE : goal.returns-then-valences-p-le-LEAST_VALENCE
returns-then-valences-p-le-LEAST_VALENCE c = lesser_of_three c.requires c.if-valences-p-le-LEAST_VALENCE.true

pub bounds-valences-q : goal.bounds-valences-q
bounds-valences-q c = greater_row c.requires

pub overflow_cast-valences-2 : goal.overflow_cast-valences-2
overflow_cast-valences-2 c = omega (arith, c.type_inv.valences c.args.q)

pub returns-then-valences-q-le-LEAST_VALENCE : goal.returns-then-valences-q-le-LEAST_VALENCE
returns-then-valences-q-le-LEAST_VALENCE c = greater_of_three c.requires c.if-valences-p-le-LEAST_VALENCE.false c.if-valences-q-le-LEAST_VALENCE.true

pub ring_of-requires : goal.ring_of-requires
ring_of-requires c = beyond_row c.requires

pub returns : goal.returns
returns c =
    joined_or_not c.requires c.if-valences-p-le-LEAST_VALENCE.false c.if-valences-q-le-LEAST_VALENCE.false _ c.ring_of.ensures.result_value _ c.is_there.ensures
