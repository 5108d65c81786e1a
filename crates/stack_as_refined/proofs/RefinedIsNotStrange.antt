-- What refinement writes is as refinement gives it: in the tables after an accepted refinement no stack vertex is strange, so that reason 11 is told only of
-- tables that were altered from outside. Assumes nothing.
use Prim.Native.Nat.{ℕ, suc, ◌+◌, ◌<◌}
use mathlib.Core.Path.{◌≡◌, sym, ◌∙◌, subst}
use mathlib.Core.Bool.{false}
use mathlib.Core.List.{List}
use lib.IntN.{ℤ}
use Rattle.mesh.specs.Search.{first}
use Rattle.mesh.specs.Mesh.{Mesh}
use Rattle.steps.specs.Sizes.{sizes_of}
use Rattle.loop_step.specs.Refine.{level}
use Rattle.units.specs.Coordinate.{InRange}
use Rattle.rings.specs.Table.{lent, Lent, rows, coordinate_at}
use Rattle.stack_judge.specs.Stack.{level_count, level_start}
use Rattle.stack_judge.specs.StackVerdict.{stack_verdict}
use Rattle.stack_judge.proofs.AcceptedStack.{stack_only}
use Rattle.stack_judge.proofs.Sizes.{level_count_lem}
use Rattle.stack_refine.specs.Refinement.{refine_valences, refine_rings, refine_positions}
use Rattle.stack_refine.proofs.StackIsRefined.{valence_is_refined, ring_is_refined, control_stays}
use Rattle.stack_refine.proofs.StackStaysInHull.{stack_stays_in_range}
use Rattle.stack_strange.specs.Expected.{whole, strange}
use Rattle.stack_strange.proofs.Strange.{not_other}
use Rattle.stack_strange.proofs.NextNumbers.{clear_all}
use Rattle.stack_as_refined.proofs.StackRows.{strange_is, clear_stack}
use Rattle.stack_as_refined.proofs.StackAsRefined.{of_near}
use Rattle.std.specs.Prelude.{Ok}

module _ (n levels : ℕ) (t : Lent) (ps : List ℤ) (accepted : (Ok tt) ≡ stack_verdict n levels t ps) where
  abbrev M : Mesh
  M = rows n t

  -- the tables after the call
  abbrev t' : Lent
  t' = lent (refine_valences n levels t ps) (refine_rings n levels t ps)

  abbrev ps' : List ℤ
  ps' = refine_positions n levels t ps

  stays : rows n t' ≡ M
  stays = control_stays n levels t ps accepted

  module _ (k x : ℕ) (l : k < levels) (h : x < level_count (sizes_of n M) (suc k)) where
    there : x < (level M (suc k)).count
    unfolding rows
    there = rw (level_count_lem M (stack_only n levels t ps (sym accepted)).control.sound (suc k)) h

    in-range : (axis : ℕ) → axis < 3 → InRange (coordinate_at ps' axis (level_start (sizes_of n M) (suc k) + x))
    in-range axis b = stack_stays_in_range n levels t ps accepted axis b (suc k) x l there

    vertex_is_not_strange : strange n levels t' ps' (level_start (sizes_of n (rows n t')) (suc k) + x) ≡ false
    vertex_is_not_strange =
        strange_is n levels t' ps' k x l (subst (λ (N : Mesh). x < level_count (sizes_of n N) (suc k)) (sym stays) h)
        ∙ rw stays
        (not_other ((level M (suc k)).ring x) t' ps' (level_start (sizes_of n M) (suc k) + x)
        (valence_is_refined n levels t ps accepted (suc k) x l there)
        (ring_is_refined n levels t ps accepted (suc k) x l there)
        (of_near ps' (level_start (sizes_of n M) (suc k) + x) in-range))

  pub refined_is_not_strange : whole n levels t' ps' ≡ first (strange n levels t' ps') (whole n levels t' ps')
  unfolding whole
  refined_is_not_strange = clear_all (clear_stack n levels t' ps' (λ k x l h. vertex_is_not_strange k x l (subst (λ (N : Mesh). x < level_count (sizes_of n N) (suc k)) stays h)))
