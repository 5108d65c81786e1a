-- `put_level` meets its contract. Assumes nothing.
use native.Mathlib.Omega.{arith}
use Rattle.numerals.proofs.Writing.{wrote_then}
use Rattle.listing_lines.proofs.put_level.Goals as goal

pub returns : goal.returns
returns c = wrote_then _ c.put_counts-end.ensures c.put_vertices.ensures (omega arith)
