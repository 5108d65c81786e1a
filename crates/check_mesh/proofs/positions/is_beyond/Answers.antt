-- `is_beyond` meets its contract. Assumes nothing.
use mir.Facts.{to_z-of_z}
use Rattle.rings.proofs.Checks.{beyond_low, beyond_rest}
use Rattle.check_mesh.proofs.positions.is_beyond.Goals as goal

pub returns-then-c-lt-LEAST_UNITS : goal.returns-then-c-lt-LEAST_UNITS
returns-then-c-lt-LEAST_UNITS c = beyond_low _ _ (to_z-of_z c.ranges.c) c.if-c-lt-LEAST_UNITS.true

pub returns-else-c-lt-LEAST_UNITS : goal.returns-else-c-lt-LEAST_UNITS
returns-else-c-lt-LEAST_UNITS c = beyond_rest _ _ (to_z-of_z c.ranges.c) c.if-c-lt-LEAST_UNITS.false
