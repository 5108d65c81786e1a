-- `put_text` meets its contract. Assumes nothing.
use native.Mathlib.Omega.{arith}
use Rattle.rings.specs.Table.{lent}
use Rattle.file_format.proofs.Blocks.{put_length}
use Rattle.rings.proofs.Accepted.{accepted_fit, accepted_all}
use Rattle.off_lines.proofs.Writing.{written_length}
use Rattle.off_writing.proofs.TextWritten.{parts_fit, all_written}
use Rattle.off_writing.proofs.put_text.Goals as goal

pub put_word-requires : goal.put_word-requires
put_word-requires c =
    let a = c.args in
    omega (arith, parts_fit a.count (lent a.valences.now a.rings.now) a.positions.now a.e a.f c.requires.e_value c.requires.f_value c.requires.positions_in_bounds)

pub put_counts-vertices-requires : goal.put_counts-vertices-requires
put_counts-vertices-requires c =
    let a = c.args in
    let h = parts_fit a.count (lent a.valences.now a.rings.now) a.positions.now a.e a.f c.requires.e_value c.requires.f_value c.requires.positions_in_bounds in
    omega (arith, h, put_length c.put_word.ensures)

pub put_vertices-corners-requires-clause-count_in_bounds_2 : goal.put_vertices-corners-requires-clause-count_in_bounds_2
put_vertices-corners-requires-clause-count_in_bounds_2 c =
    let a = c.args in
    let h = parts_fit a.count (lent a.valences.now a.rings.now) a.positions.now a.e a.f c.requires.e_value c.requires.f_value c.requires.positions_in_bounds in
    let k = c.put_counts-vertices.ensures in
    omega (arith, h, put_length c.put_word.ensures, written_length k, k.ends)

pub put_faces-requires : goal.put_faces-requires
put_faces-requires c =
    let a = c.args in
    let h = parts_fit a.count (lent a.valences.now a.rings.now) a.positions.now a.e a.f c.requires.e_value c.requires.f_value c.requires.positions_in_bounds in
    let k = c.put_counts-vertices.ensures in
    let v = c.put_vertices-corners.ensures in
    record {
      fit = accepted_fit _ _ _ (accepted_all _ _ _ c.requires.accepts);
      sound = c.requires.accepts.sound;
      rings_in_bounds = omega (arith, h, put_length c.put_word.ensures, written_length k, written_length v, k.ends, v.ends);
    }

pub returns : goal.returns
returns c =
    let a = c.args in
    all_written a.count (lent a.valences.now a.rings.now) a.positions.now a.e a.f c.requires.e_value c.requires.f_value
    c.put_word.ensures c.put_counts-vertices.ensures c.put_vertices-corners.ensures c.put_faces.ensures
