-- Refinement reads the valences, the used places and the points of the control mesh, and the lengths of the tables, and nothing else: where these agree,
-- the verdict and the answer are the same, and so is every row of every level of an accepted stack. Unused places, and what stood behind level 0, are never read.
-- Assumes nothing.
use mathlib.Core.Path.{◌≡◌, refl, sym, ap, subst, ◌∙◌}
use mathlib.Core.List.{List}
use Prim.Native.Nat.{ℕ, ◌+◌, ◌≤◌, ◌<◌}
use native.Mathlib.Omega.{arith}
use lib.IntN.{ℤ}
use lib.ListN.{length, get_or}
use Rattle.mesh.specs.Mesh.{Mesh, Sound}
use Rattle.mesh.specs.Tests.{one_sided, open_faced}
use Rattle.mesh.proofs.SoundMeshes.{mesh_same}
use Rattle.steps.specs.Mask.{refined}
use Rattle.steps.specs.Sizes.{sizes_of}
use Rattle.steps.proofs.Refresh.{refined_same}
use Rattle.loop_step.specs.Refine.{level}
use Rattle.loop_step.specs.Loop.{loop}
use Rattle.loop_step.proofs.Levels.{loop_grounded}
use Rattle.rings.specs.Table.{Lent, lent, valence_at, ring_of, rows, coordinate_at}
use Rattle.rings.specs.Check.{short_rings, short_tables, improper_row, unfit_row, beyond_at, check_verdict}
use Rattle.rings.specs.Verdict.{refuse_at}
use Rattle.rings.specs.declared.Refusal.TheVariants.{RingImproper, NotMutual, NotTriangle, ControlCoordinate}
use Rattle.rings.proofs.Verdicts.{at_same}
use Rattle.stack_judge.specs.Stack.{level_start, stack_count, short_stack}
use Rattle.stack_judge.specs.StackVerdict.{stack_verdict}
use Rattle.stack_judge.proofs.AcceptedStack.{stack_only}
use Rattle.stack_refine.specs.Refinement.{refine_answer, refine_valences, refine_rings, refine_positions}
use Rattle.stack_refine.proofs.StackIsRefined.{valence_is_refined, ring_is_refined, point_is_refined}
use Rattle.rings.specs.Refusal.{Verdict}
use Rattle.std.specs.Prelude.{Ok}

-- ---- two inputs with the same control mesh, and tables of the same lengths

pub record SameControl (n : ℕ) (t : Lent) (ps : List ℤ) (t' : Lent) (ps' : List ℤ) : Type 0 where
  pub valences : length t.valences ≡ length t'.valences
  pub rings : length t.rings ≡ length t'.rings
  pub positions : length ps ≡ length ps'
  pub valence : (v : ℕ) → v < n → valence_at t v ≡ valence_at t' v
  pub ring : (v : ℕ) → v < n → ring_of t v ≡ ring_of t' v
  pub point : (axis v : ℕ) → axis < 3 → v < n → coordinate_at ps axis v ≡ coordinate_at ps' axis v

module _ (n levels : ℕ) (t : Lent) (ps : List ℤ) (t' : Lent) (ps' : List ℤ) (s : SameControl n t ps t' ps') where
  pub same_mesh : rows n t ≡ rows n t'
  unfolding rows
  same_mesh = mesh_same n (ring_of t) (ring_of t') s.ring

  same_short : short_tables n t ps ≡ short_tables n t' ps'
  unfolding short_tables short_rings
  same_short = rw (s.valences, s.rings, s.positions)

  same_unfit : (v : ℕ) → v < n → unfit_row n t v ≡ unfit_row n t' v
  unfolding unfit_row improper_row
  same_unfit v l = rw (s.valence v l, same_mesh)

  same_beyond : (v : ℕ) → v < n → beyond_at ps v ≡ beyond_at ps' v
  unfolding beyond_at
  same_beyond v l = rw (s.point 0 v (omega arith) l, s.point 1 v (omega arith) l, s.point 2 v (omega arith) l)

  same_check : check_verdict n t ps ≡ check_verdict n t' ps'
  unfolding check_verdict
  same_check =
      let behind : Verdict =
      refuse_at (one_sided (rows n t)) n NotMutual (refuse_at (open_faced (rows n t)) n NotTriangle (refuse_at (beyond_at ps) n ControlCoordinate (Ok tt))) in
      rw (
        same_short,
        at_same (unfit_row n t) (unfit_row n t') n RingImproper behind behind same_unfit (λ c. refl),
        same_mesh,
        at_same (beyond_at ps) (beyond_at ps') n ControlCoordinate (Ok tt) (Ok tt) same_beyond (λ c. refl),
      )

  same_room : (c : ℕ) → short_stack c t ps ≡ short_stack c t' ps'
  unfolding short_stack
  same_room c = rw (s.valences, s.rings, s.positions)

  pub same_verdict : stack_verdict n levels t ps ≡ stack_verdict n levels t' ps'
  unfolding stack_verdict
  same_verdict = rw (same_check, same_mesh, same_room (stack_count (sizes_of n (rows n t')) levels))

  pub same_answer : refine_answer n levels t ps ≡ refine_answer n levels t' ps'
  unfolding refine_answer
  same_answer = rw (same_verdict, same_mesh)

  -- vertex x of level k of an accepted stack
  module _ (accepted : (Ok tt) ≡ stack_verdict n levels t ps) (k x : ℕ) (l : k ≤ levels) (h : x < (level (rows n t) k).count) where
    -- its stack vertex, by either input
    abbrev at : ℕ
    at = level_start (sizes_of n (rows n t)) k + x

    at_same_place : at ≡ level_start (sizes_of n (rows n t')) k + x
    at_same_place = ap (λ (N : Mesh). level_start (sizes_of n N) k + x) same_mesh

    accepted' : (Ok tt) ≡ stack_verdict n levels t' ps'
    accepted' = accepted ∙ same_verdict

    h' : x < (level (rows n t') k).count
    h' = subst (λ (N : Mesh). x < (level N k).count) same_mesh h

    pub same_valence : get_or (refine_valences n levels t ps) at 0 ≡ get_or (refine_valences n levels t' ps') at 0
    same_valence =
        valence_is_refined n levels t ps accepted k x l h
        ∙ ap (λ (N : Mesh). length ((level N k).ring x)) same_mesh
        ∙ sym (valence_is_refined n levels t' ps' accepted' k x l h')
        ∙ ap (λ (p : ℕ). get_or (refine_valences n levels t' ps') p 0) (sym at_same_place)

    pub same_ring : ring_of (lent (refine_valences n levels t ps) (refine_rings n levels t ps)) at ≡ ring_of (lent (refine_valences n levels t' ps') (refine_rings n levels t' ps')) at
    same_ring =
        ring_is_refined n levels t ps accepted k x l h
        ∙ ap (λ (N : Mesh). (level N k).ring x) same_mesh
        ∙ sym (ring_is_refined n levels t' ps' accepted' k x l h')
        ∙ ap (ring_of (lent (refine_valences n levels t' ps') (refine_rings n levels t' ps'))) (sym at_same_place)

    pub same_point : (axis : ℕ) → axis < 3 → coordinate_at (refine_positions n levels t ps) axis at ≡ coordinate_at (refine_positions n levels t' ps') axis at
    unfolding loop level rows
    same_point axis b =
        let S : Sound (rows n t) = (stack_only n levels t ps (sym accepted)).control.sound in
        point_is_refined n levels t ps accepted k x l h axis b
        ∙ refined_same (loop (rows n t)) (loop_grounded (rows n t) S) (coordinate_at ps axis) (coordinate_at ps' axis) (λ v g. s.point axis v b g) k x h
        ∙ ap (λ (N : Mesh). refined (loop N) (coordinate_at ps' axis) k x) same_mesh
        ∙ sym (point_is_refined n levels t' ps' accepted' k x l h' axis b)
        ∙ ap (coordinate_at (refine_positions n levels t' ps') axis) (sym at_same_place)
