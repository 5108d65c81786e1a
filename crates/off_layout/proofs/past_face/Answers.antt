-- `past_face` meets its contract. Assumes nothing.
use native.Mathlib.Omega.{arith}
use Rattle.off_numbers.specs.Text.{number_at}
use Rattle.off_numbers.proofs.Found.{number_found}
use Rattle.off_text.specs.Layout.{is_corners, corners_at, is_face, after_face}
use Rattle.off_layout.specs.Judging.{past_face}
use Rattle.off_layout.proofs.Lines.{three_within}
use Rattle.off_layout.proofs.past_face.Goals as goal

pub returns-then-not-is_three : goal.returns-then-not-is_three
unfolding past_face is_face is_corners
returns-then-not-is_three c = grind arith

pub number_at-requires-clause-at_in_bounds : goal.number_at-requires-clause-at_in_bounds
number_at-requires-clause-at_in_bounds c = grind (arith, three_within)

pub returns-in_err-a : goal.returns-in_err-a
unfolding past_face is_face is_corners number_at
returns-in_err-a c = grind arith

pub number_at-requires-2-clause-at_in_bounds : goal.number_at-requires-2-clause-at_in_bounds
number_at-requires-2-clause-at_in_bounds c = grind (arith, number_found, c.in_ok-a.ensures)

pub returns-in_err-b : goal.returns-in_err-b
unfolding past_face is_face is_corners number_at
returns-in_err-b c = grind arith

pub number_at-requires-3-clause-at_in_bounds : goal.number_at-requires-3-clause-at_in_bounds
number_at-requires-3-clause-at_in_bounds c = grind (arith, number_found, c.in_ok-b.ensures)

pub returns-in_err-c : goal.returns-in_err-c
unfolding past_face is_face is_corners number_at
returns-in_err-c c = grind arith

pub returns-then-is_bad_face : goal.returns-then-is_bad_face
unfolding past_face is_face is_corners corners_at number_at
returns-then-is_bad_face c = grind arith

pub returns : goal.returns
unfolding past_face is_face is_corners corners_at number_at after_face
returns c = grind arith
