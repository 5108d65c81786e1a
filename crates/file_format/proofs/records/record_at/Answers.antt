-- `record_at` meets its contract. Assumes nothing.
use mathlib.Core.Path.{◌∙◌}
use native.Mathlib.Omega.{arith}
use Rattle.file_format.proofs.Finding.{cut_head, cut_payload, found_whole}
use Rattle.file_format.proofs.records.record_at.Goals as goal

pub returns-in_err-checked_sub : goal.returns-in_err-checked_sub
returns-in_err-checked_sub c = c.from_residual.ensures ∙ cut_head _ _ (omega (arith, c.in_err-checked_sub.ensures))

pub returns-in_err-room : goal.returns-in_err-room
returns-in_err-room c = c.from_residual-in_err-room.ensures ∙ cut_head _ _ (omega (arith, c.in_ok-checked_sub.ensures, c.in_err-room.ensures))

pub returns-then-room-length : goal.returns-then-room-length
returns-then-room-length c = cut_payload _ _ _ c.four_at-length.ensures.value (omega (arith, c.in_ok-checked_sub.ensures, c.in_ok-room.ensures))

pub returns : goal.returns
returns c = found_whole _ _ _ _ c.two_at.ensures.value c.four_at-length.ensures.value (omega (arith, c.in_ok-checked_sub.ensures, c.in_ok-room.ensures))
