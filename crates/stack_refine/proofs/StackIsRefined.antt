-- An accepted refinement leaves a true stack: vertex x of level k, at stack vertex `level_start k + x`, has the valence, the ring and the point that
-- refinement defines for it; so each level, read from where it begins, is the abstract level, sound, with V, E and F of document 01, "Refinement, one level".
-- A written row has 65,535 in its unused places. Assumes nothing.
use mathlib.Core.Path.{◌≡◌, sym, ap, subst, ◌∙◌}
use mathlib.Core.List.{List}
use Prim.Native.Nat.{ℕ, suc, ◌+◌, ◌*◌, ◌≤◌, ◌<◌}
use native.Mathlib.Omega.{arith}
use lib.IntN.{ℤ}
use lib.ListN.{length, get_or, take, drop}
use Rattle.mesh.specs.Search.{sum}
use Rattle.mesh.specs.Mesh.{Mesh, Sound, edges, faces, characteristic}
use Rattle.steps.specs.Mask.{refined}
use Rattle.steps.specs.Sizes.{sizes_of}
use Rattle.loop_step.specs.Refine.{level}
use Rattle.loop_step.specs.Loop.{loop}
use Rattle.loop_step.proofs.RefinementKeepsSoundness as K
use Rattle.rings.specs.Table.{Lent, lent, ring_of, rows, padded, coordinate_at}
use Rattle.stack_judge.specs.Stack.{level_start}
use Rattle.stack_judge.specs.Accepts.{AcceptsStack}
use Rattle.stack_judge.specs.StackVerdict.{stack_verdict}
use Rattle.stack_judge.proofs.AcceptedStack.{stack_only}
use Rattle.stack_judge.proofs.Sizes.{start_none}
use Rattle.stack_refine.specs.Refinement.{stacked_valences, stacked_rings, stacked_positions, refine_valences, refine_rings, refine_positions}
use Rattle.stack_refine.proofs.RefineAnswers.{accepted_valences, accepted_rings, accepted_positions}
use Rattle.stack_refine.proofs.StackLevels as T
use Rattle.std.specs.Prelude.{Ok}

module _ (n levels : ℕ) (t : Lent) (ps : List ℤ) (accepted : (Ok tt) ≡ stack_verdict n levels t ps) where
  -- the control mesh, where level k begins, and the tables after the call
  abbrev M : Mesh
  M = rows n t

  abbrev start : ℕ → ℕ
  start k = level_start (sizes_of n M) k

  abbrev after_valences : List ℕ
  after_valences = refine_valences n levels t ps

  abbrev after_rings : List ℕ
  after_rings = refine_rings n levels t ps

  abbrev after_positions : List ℤ
  after_positions = refine_positions n levels t ps

  a : AcceptsStack n levels t ps
  a = stack_only n levels t ps (sym accepted)

  S : Sound M
  S = a.control.sound

  begins : (k : ℕ) → start k ≡ sum (λ j. (level M j).count) k
  begins k = T.start_is n levels t ps a k

  valences_are : after_valences ≡ stacked_valences n levels t
  valences_are = sym (accepted_valences n levels t ps accepted)

  rings_are : after_rings ≡ stacked_rings n levels t
  rings_are = sym (accepted_rings n levels t ps accepted)

  positions_are : after_positions ≡ stacked_positions n levels t ps
  positions_are = sym (accepted_positions n levels t ps accepted)

  -- ---- vertex x of level k

  module _ (k x : ℕ) (l : k ≤ levels) (h : x < (level M k).count) where
    pub valence_is_refined : get_or after_valences (start k + x) 0 ≡ length ((level M k).ring x)
    valence_is_refined = rw (valences_are, begins k) (T.valence_at_lem n levels t ps a levels (omega arith) k x l h)

    pub ring_is_refined : ring_of (lent after_valences after_rings) (start k + x) ≡ (level M k).ring x
    ring_is_refined = rw (valences_are, rings_are, begins k) (T.ring_at_lem n levels t ps a levels (omega arith) k x l h)

    pub point_is_refined : (axis : ℕ) → axis < 3 → coordinate_at after_positions axis (start k + x) ≡ refined (loop M) (coordinate_at ps axis) k x
    point_is_refined axis b = rw (positions_are, begins k) (T.coordinate_at_lem n levels t ps a levels (omega arith) axis b k x l h)

  pub unused_places_are_null : (k x : ℕ) → k < levels → x < (level M (suc k)).count → take 32 (drop ((start (suc k) + x) * 32) after_rings) ≡ padded ((level M (suc k)).ring x)
  unused_places_are_null k x l h = rw (rings_are, begins (suc k)) (T.written_row n levels t ps a levels (omega arith) k x l h)

  -- ---- level k, read from where it begins

  abbrev at_level : ℕ → Mesh
  at_level k = rows (level M k).count (lent (drop (start k) after_valences) (drop (start k * 32) after_rings))

  pub level_is_refined : (k : ℕ) → k ≤ levels → at_level k ≡ level M k
  level_is_refined k l = rw (valences_are, rings_are, begins k) (T.level_part n levels t ps a levels (omega arith) k l)

  -- the control mesh stays
  pub control_stays : rows n (lent after_valences after_rings) ≡ M
  unfolding level rows
  control_stays =
      let h : rows n (lent (drop (start 0) after_valences) (drop (start 0 * 32) after_rings)) ≡ M = level_is_refined 0 (omega arith) in
      rw (start_none (sizes_of n M)) at h

  pub every_level_is_sound : (k : ℕ) → k ≤ levels → Sound (at_level k)
  every_level_is_sound k l = subst Sound (sym (level_is_refined k l)) (K.every_level_is_sound M S k)

  -- V + E, 4E, 4F a level, and V - E + F stays
  module _ (k : ℕ) (l : k < levels) where
    before : at_level k ≡ level M k
    before = level_is_refined k (omega arith)

    next : at_level (suc k) ≡ level M (suc k)
    next = level_is_refined (suc k) l

    pub vertices_and_edges : (at_level (suc k)).count ≡ (at_level k).count + edges (at_level k)
    vertices_and_edges = rw (next, before) (K.next_level_count M S k)

    pub four_times_the_edges : edges (at_level (suc k)) ≡ 4 * edges (at_level k)
    unfolding level
    four_times_the_edges = rw (next, before) (K.refined_edges (level M k) (K.every_level_is_sound M S k))

    pub four_times_the_faces : faces (at_level (suc k)) ≡ 4 * faces (at_level k)
    unfolding level
    four_times_the_faces = rw (next, before) (K.refined_faces (level M k) (K.every_level_is_sound M S k))

    -- an old vertex keeps its valence, a new one has 6
    pub old_valence_stays : (x : ℕ) → x < (level M k).count → get_or after_valences (start (suc k) + x) 0 ≡ get_or after_valences (start k + x) 0
    unfolding level
    old_valence_stays x h =
        valence_is_refined (suc k) x l (omega (arith, K.next_level_count M S k))
        ∙ K.old_valence_stays (level M k) (K.every_level_is_sound M S k) x h
        ∙ sym (valence_is_refined k x (omega arith) h)

    pub new_valence_is_six : (x : ℕ) → (level M k).count ≤ x → x < (level M (suc k)).count → get_or after_valences (start (suc k) + x) 0 ≡ 6
    unfolding level
    new_valence_is_six x h g = valence_is_refined (suc k) x l g ∙ K.new_valence_is_six (level M k) (K.every_level_is_sound M S k) x h g

  pub characteristic_stays : (k : ℕ) → k ≤ levels → characteristic (at_level k) ≡ characteristic M
  characteristic_stays k l = ap characteristic (level_is_refined k l) ∙ K.level_characteristic M S k
