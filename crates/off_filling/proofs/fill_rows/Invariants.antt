use Rattle.rings.specs.Table.{lent}
use Rattle.off_filling.specs.Filling.{Filled}
use Rattle.off_filling.proofs.fill_rows.Given as goal

abbrev pub invariant-loop-j : goal.invariant-loop-j
invariant-loop-j l = Filled l.text l.first l.j (lent l.initial.valences l.initial.rings) (lent l.valences l.rings)
