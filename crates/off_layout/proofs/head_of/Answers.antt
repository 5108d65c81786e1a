-- `head_of` meets its contract. Assumes nothing.
use native.Mathlib.Omega.{arith}
use Rattle.std.proofs.lemmas.Bool.Decides.{nat_tests}
use Rattle.off_numbers.specs.Text.{number_at}
use Rattle.off_numbers.proofs.Found.{number_found}
use Rattle.off_text.specs.Layout.{is_counts, text_count, text_faces, text_edges, vertex_at}
use Rattle.off_layout.specs.Judging.{head_of}
use Rattle.off_layout.proofs.head_of.Goals as goal

pub returns-in_err-count : goal.returns-in_err-count
unfolding head_of is_counts number_at
returns-in_err-count c = grind arith

pub number_at-requires-2-clause-at_in_bounds : goal.number_at-requires-2-clause-at_in_bounds
number_at-requires-2-clause-at_in_bounds c = grind (arith, number_found, c.in_ok-count.ensures)

pub returns-in_err-faces : goal.returns-in_err-faces
unfolding head_of is_counts number_at
returns-in_err-faces c = grind arith

pub number_at-requires-3-clause-at_in_bounds : goal.number_at-requires-3-clause-at_in_bounds
number_at-requires-3-clause-at_in_bounds c = grind (arith, number_found, c.in_ok-faces.ensures)

pub returns-in_err-edges : goal.returns-in_err-edges
unfolding head_of is_counts number_at
returns-in_err-edges c = grind arith

pub overflow_mul-edges : goal.overflow_mul-edges
overflow_mul-edges c = grind (arith, number_found, c.in_ok-edges.ensures)

pub overflow_mul-faces : goal.overflow_mul-faces
overflow_mul-faces c = grind (arith, number_found, c.in_ok-faces.ensures)

pub returns-then-edges-faces : goal.returns-then-edges-faces
unfolding head_of is_counts number_at text_count text_faces text_edges vertex_at
returns-then-edges-faces c = grind (arith, nat_tests)

pub returns : goal.returns
unfolding head_of is_counts number_at text_count text_faces text_edges vertex_at
returns c = grind (arith, nat_tests)
