-- `has_beyond` meets its contract. Assumes nothing.
use mathlib.Core.Path.{sym, ◌∙◌}
use Rattle.mesh.proofs.First.{true_not_false}
use Rattle.rings.proofs.Checks.{beyond_read, beyond_x, beyond_y, beyond_z}
use Rattle.check_mesh.proofs.positions.has_beyond.Goals as goal
use Rattle.check_mesh.proofs.positions.has_beyond.Goals.{then-is_beyond, else-is_beyond}

pub returns-then-is_beyond-2 : goal.returns-then-is_beyond-2
returns-then-is_beyond-2 c =
    let x = beyond_read _ _ c.is_beyond-arg-1.given c.is_beyond.ensures in
    elim c.if-is_beyond.branch [
      | then-is_beyond w ↦ w.value-is ∙ beyond_x _ _ _ x w.if-is_beyond.true
      | else-is_beyond w ↦
          w.value-is ∙ beyond_y _ _ _ x _ (beyond_read _ _ w.is_beyond-arg-else-is_beyond-1.given w.is_beyond-else-is_beyond.ensures) w.if-is_beyond.false (sym w.value-is ∙ c.if-is_beyond-2.true)
    ]

pub returns-else-is_beyond-2 : goal.returns-else-is_beyond-2
returns-else-is_beyond-2 c =
    let x = beyond_read _ _ c.is_beyond-arg-1.given c.is_beyond.ensures in
    elim c.if-is_beyond.branch [
      | then-is_beyond w ↦ absurd (true_not_false w.if-is_beyond.true (sym w.value-is ∙ c.if-is_beyond-2.false))
      | else-is_beyond w ↦
          beyond_z _ _ _ x _ (beyond_read _ _ w.is_beyond-arg-else-is_beyond-1.given w.is_beyond-else-is_beyond.ensures) w.if-is_beyond.false (sym w.value-is ∙ c.if-is_beyond-2.false) _
          (beyond_read _ _ c.is_beyond-arg-else-is_beyond-2-1.given c.is_beyond-else-is_beyond-2.ensures)
    ]
