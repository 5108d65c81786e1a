-- The walk of a list of records is that of the moves that they mean. Assumes nothing.
use Prim.Native.Nat.{ℕ, ◌+◌, ◌≤◌, ◌<◌}
use mathlib.Core.Path.{◌≡◌, sym, ap, subst, ◌∙◌}
use mathlib.Core.List.{List}
use native.Mathlib.Omega.{arith}
use lib.IntN.{ℤ}
use lib.ListN.{length, get_or, drop, get_or-map, length-map}
use Rattle.move_plan.specs.Plan.{step_of, ahead_of, walk_of}
use Rattle.move_plan.specs.declared.Plan.{Plan}
use Rattle.move_plan.proofs.Walks.{one_more, walk_over, walk_end}
use Rattle.move_plan.proofs.WalksStop.{Counted, walk_ahead}
use Rattle.c_moves.specs.Records.{move_of, moves_of}
use Rattle.c_moves.specs.declared.MoveRecord.{MoveRecord}

module _ (ps : List ℤ) (list : List MoveRecord) (i : ℕ) (s : Plan) where
  pub one_record_more : (r : Plan) (d : MoveRecord) → i < length list → r ≡ step_of ps s (move_of (get_or list i d))
      → walk_of ps (drop (i + 1) (moves_of list)) r ≡ walk_of ps (drop i (moves_of list)) s
  one_record_more r d h e =
      one_more ps (moves_of list) i s r (move_of d) (omega (arith, length-map list move_of)) (e ∙ ap (step_of ps s) (sym (get_or-map move_of list i d)))

  pub records_end : length list ≤ i → walk_of ps (drop i (moves_of list)) s ≡ s
  records_end h = walk_end ps (moves_of list) i s (omega (arith, length-map list move_of))

  -- where the walk stops
  pub records_ahead : Counted i s → ahead_of s (length list) ≤ i → walk_of ps (drop i (moves_of list)) s ≡ s
  records_ahead c h = walk_ahead ps (moves_of list) i s c (subst (λ n. ahead_of s n ≤ i) (sym (length-map list move_of)) h)

-- how a walk of records goes on, stops and ends
pub ruleset walking_records = (one_record_more, walk_over, records_ahead, records_end)
