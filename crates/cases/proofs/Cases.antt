-- Document 01's cases hold: both sides of each line compute to the same.
-- Assumes nothing.
use mathlib.Core.Path.{refl}
use lib.Ieee.{of_bits, le, add}
use Rattle.mesh.specs.Search.{first_from, first, some}
use Rattle.mesh.specs.Ring.{has, place_after, place_before, next, prev, follows}
use Rattle.mesh.specs.Mesh.{valences, edges, faces, up}
use Rattle.mesh.specs.Tests.{repeat_at, bad_at, improper, lacks_at, one_sided, open_at, open_faced}
use Rattle.mesh.specs.Numbering.{start, number, row_of, entry_of}
use Rattle.steps.specs.Round.{round_nat, rounded}
use Rattle.steps.specs.Mask.{by_mask, touched, touched_count, refined}
use Rattle.loop_step.specs.Refine.{mid, low_end, high_end, old_ring, new_ring, refine, level}
use Rattle.loop_step.specs.Loop.{loop_mask, loop}
use Rattle.units.specs.Coordinate.{beyond}
use Rattle.millimetres.specs.Millimetres.{inside, units_of, mm_unit}
use Rattle.millimetres.specs.Move.{fit, settled_at, moved_to}
use Rattle.rings.specs.Table.{put, ring_of, rows, padded, valence_rows, ring_rows, coordinate_at, point_at, point_rows}
use Rattle.rings.specs.Verdict.{refuse_if, refuse_at, and_then, after, with_counts, with_amount}
use Rattle.rings.specs.Check.{bad_count, short_rings, short_tables, improper_row, unfit_row, beyond_at, check_verdict, check_answer}
use Rattle.stack_judge.specs.Stack.{level_start, stack_count, level_of, number_in, bad_levels, too_large, short_stack}
use Rattle.stack_judge.specs.StackVerdict.{stack_verdict}
use Rattle.ring_judge.specs.Judging.{table_verdict, call_verdict}
use Rattle.ring_query.specs.Queries.{with_neighbour, next_answer}
use Rattle.move_map.specs.Map.{word, map_words}
use Rattle.stack_refine.specs.Refinement.{stacked_valences, stacked_rings, stacked_positions, refine_answer, refine_valences, refine_rings, refine_positions}
use Rattle.stack_strange.specs.Expected.{whole, other_than, wanted, strange}
use Rattle.move_plan.specs.Moves.{placed, step}
use Rattle.move_lists.specs.Apply.{before_moves, moved, apply_verdict, touched_at, touched_total, touched_map, apply_answer, apply_map}
use Rattle.file_format.specs.Layout.{file_count, row_at, file_valence, file_ring, file_point, is_first, is_row, is_last, file_verdict}
use Rattle.file_format.specs.Bytes.{record_of, number_at, length_at, kind_at, after_at, whole_at}
use Rattle.file_reading.specs.Read.{read_verdict, read_rings}
use Rattle.file_writing.specs.Write.{payload_of, file_of}
use Rattle.numerals.specs.Numerals as numerals
use Rattle.numerals.specs.Numerals.{digits, signed}
use Rattle.listing_lines.specs.Lines.{counts_line, vertex_line}
use Rattle.listing_text.specs.Listing.{level_text}
use Rattle.cases.specs.Calls.{tenth, fifth}
use Rattle.cases.specs.Cases.{Cases}

pub cases : Cases
unfolding first_from first some has place_after place_before next prev follows valences edges faces repeat_at bad_at improper lacks_at one_sided open_at open_faced start number row_of entry_of
    up mid low_end high_end old_ring new_ring refine level round_nat rounded by_mask touched touched_count refined loop_mask loop
    beyond inside units_of mm_unit fit settled_at moved_to
    put ring_of rows padded valence_rows ring_rows coordinate_at point_rows refuse_if refuse_at and_then after with_counts bad_count short_rings short_tables unfit_row beyond_at check_verdict check_answer
    table_verdict improper_row call_verdict with_neighbour next_answer level_start stack_count short_stack bad_levels too_large stacked_valences stacked_rings stacked_positions stack_verdict refine_answer refine_positions record_of payload_of file_of
    tenth fifth of_bits le add refine_valences refine_rings level_of number_in placed step word map_words other_than wanted strange before_moves moved apply_verdict touched_at touched_total touched_map apply_answer apply_map whole with_amount
    point_at number_at length_at kind_at after_at whole_at file_count row_at file_valence file_ring file_point is_first is_row is_last file_verdict read_verdict read_rings level_text digits numerals.number signed counts_line vertex_line
cases = record {
  sound = refl;
  counts = refl;
  ring1 = refl;
  ring4 = refl;
  ring9 = refl;
  octahedron14 = refl;
  counts24 = refl;
  not_touched = refl;
  tetrahedron11 = refl;
  moved14 = refl;
  moved11 = refl;
  mapped14 = refl;
  mapped11 = refl;
  placed = λ p. refl;
  shifted = refl;
  placed_fifth = λ p. refl;
  small = λ p. refl;
  next_out = λ p. refl;
  out14 = refl;
  twisted = refl;
  torn = refl;
  next_of3 = refl;
  next_of0 = refl;
  bytes118 = refl;
  read_back = refl;
  halves = refl;
  listing = refl;
  text = refl;
}
