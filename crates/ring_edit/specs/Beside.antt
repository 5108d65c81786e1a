-- For inside.
-- Inside the crate: both insertions as one, which puts x in so many places behind a's own: 0 is before a, 1 is after it.
-- Assumes nothing.
use Rattle.std.specs.Prelude.{cond, ℕ, ◌+◌}
use Rattle.mesh.specs.Ring.{has, place}
use Rattle.mesh.specs.Edits.{opened}
use Rattle.rings.specs.Table.{Lent, ring_of}
use Rattle.ring_row.specs.Edit.{Edit}
use Rattle.ring_edit.specs.Calls.{insert_verdict}

-- insert x beside a
unfoldable pub beside_edit : ℕ → Lent → ℕ → ℕ → ℕ → ℕ → Edit
beside_edit n t v a x behind = record {
  verdict = insert_verdict n t v a x;
  effect = has a (ring_of t v);
  ring = cond (has a (ring_of t v)) (opened (ring_of t v) (behind + place a (ring_of t v)) x) (ring_of t v);
}
