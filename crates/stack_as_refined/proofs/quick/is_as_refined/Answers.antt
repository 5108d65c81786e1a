-- `is_as_refined` meets its contract. Assumes nothing.
use Rattle.stack_as_refined.proofs.QuickLevel.{quick_clear}
use Rattle.stack_as_refined.proofs.quick.is_as_refined.Goals as goal
use Rattle.stack_as_refined.proofs.quick.is_as_refined.Goals.{then-has_same_valences, else-has_same_valences, then-has_six_valences, else-has_six_valences, then-is_near_from, else-is_near_from}

pub returns-then-ascends : goal.returns-then-ascends
returns-then-ascends c = λ e.
    elim c.if-is_near_from.branch [
      | else-is_near_from z ↦ cc
      | then-is_near_from z ↦
          elim c.if-has_six_valences.branch [
            | else-has_six_valences y ↦ cc
            | then-has_six_valences y ↦
                elim c.if-has_same_valences.branch [
                  | else-has_same_valences x ↦ cc
                  | then-has_same_valences x ↦
                      quick_clear c.requires.ready c.requires.end_value (c.has_same_valences.ensures x.if-has_same_valences.true)
                      (x.has_six_valences.ensures (cc))
                      (y.is_near_from.ensures (cc))
                      (z.ascends.ensures (cc))
                      (c.rows_agree.ensures e)
                ]
          ]
    ]
