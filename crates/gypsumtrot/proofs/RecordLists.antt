-- A list of records, worked out into a plan, settled and answered by the kinds, is the call with its moves. Assumes nothing.
use Prim.Native.Nat.{ℕ}
use mathlib.Core.Path.{◌≡◌, ap, subst, ◌∙◌}
use mathlib.Core.List.{List}
use lib.IntN.{ℤ}
use lib.ListN.{length, length-map}
use Rattle.rings.specs.Table.{Lent}
use Rattle.rings.specs.Refusal.{Paper}
use Rattle.rings.specs.Paper.{paper_amount}
use Rattle.move_lists.specs.Apply.{apply_answer, apply_positions, apply_map}
use Rattle.move_plan.specs.Plan.{walk_of}
use Rattle.move_lists.specs.Settle.{first_plan, settle_answer, settle_positions, settle_map}
use Rattle.move_plan.specs.declared.Plan.{Plan}
use Rattle.move_lists.proofs.Settled.{settle_is_apply}
use Rattle.c_moves.specs.Records.{move_of, moves_of, by_kinds, records_answer}
use Rattle.c_moves.specs.declared.MoveRecord.{MoveRecord}

module _ (n levels : ℕ) (t : Lent) (ps : List ℤ) (words : List ℕ) (list : List MoveRecord) where
  abbrev planned : Plan
  planned = walk_of ps (moves_of list) (first_plan n levels)

  -- settling the plan, for so many moves, is the call with the moves
  abbrev Same : ℕ → Type 0
  Same moves = (settle_answer planned moves levels t ps words ≡ apply_answer n levels t ps words (moves_of list))
      × (settle_positions planned moves levels t ps words ≡ apply_positions n levels t ps words (moves_of list))
      × (settle_map planned moves levels t ps words ≡ apply_map n levels t ps words (moves_of list))

  same : Same (length list)
  same = subst Same (length-map list move_of) (settle_is_apply n levels t ps words (moves_of list))

  -- the plan s of the list, settled with this answer, these positions and this map, and the answer by the kinds
  pub records_settled : {s : Plan} {p r : Paper} {positions : List ℤ} {marks : List ℕ} → s ≡ planned
      → p ≡ paper_amount (settle_answer s (length list) levels t ps words)
      → positions ≡ settle_positions s (length list) levels t ps words
      → marks ≡ settle_map s (length list) levels t ps words
      → r ≡ by_kinds list p
      → (r ≡ records_answer n levels t ps words list) × (positions ≡ apply_positions n levels t ps words (moves_of list)) × (marks ≡ apply_map n levels t ps words (moves_of list))
  unfolding records_answer
  records_settled {s} {p} {r} {positions} {marks} h a b c e = (
    e ∙ ap (by_kinds list) (a ∙ ap (λ (z : Plan). paper_amount (settle_answer z (length list) levels t ps words)) h ∙ ap paper_amount same.0),
    b ∙ ap (λ (z : Plan). settle_positions z (length list) levels t ps words) h ∙ same.1,
    c ∙ ap (λ (z : Plan). settle_map z (length list) levels t ps words) h ∙ same.2,
  )
