-- What refinement leaves alone, on all inputs: the tables keep their lengths, level 0 stays as it was, and so does everything behind the last level.
-- Assumes nothing.
use mathlib.Core.Path.{◌≡◌, refl, sym, ◌∙◌}
use mathlib.Core.List.{List}
use Prim.Native.Nat.{ℕ, suc, ◌+◌, ◌*◌, ◌≤◌, ◌<◌}
use native.Mathlib.Omega.{arith}
use lib.IntN.{ℤ, pos}
use lib.ListN.{length, get_or, take, drop, length-take, length-drop}
use lib.Seq.{get_or-take, get_or-drop, ext_get_or}
use Rattle.mesh.specs.Search.{sum}
use Rattle.steps.specs.Sizes.{sizes_of}
use Rattle.loop_step.specs.Refine.{level}
use Rattle.rings.specs.Table.{Lent, rows}
use Rattle.stack_judge.specs.Stack.{stack_count}
use Rattle.stack_judge.specs.Accepts.{AcceptsStack}
use Rattle.stack_refine.specs.Refinement.{stacked_valences, stacked_rings, stacked_positions, refine_valences, refine_rings, refine_positions}
use Rattle.stack_refine.proofs.RefineAnswers.{by_verdict}
use Rattle.stack_refine.proofs.StackLevels as T

-- two tables of one length that agree before, or from, a place
module _ {A : Type 0} (d : A) (z u : List A) (c : ℕ) (long : length z ≡ length u) where
  same_front : ((p : ℕ) → p < c → get_or z p d ≡ get_or u p d) → take c z ≡ take c u
  same_front same =
      let l : length (take c z) ≡ length (take c u) = simp (length-take, long) in
      ext_get_or d (take c z) (take c u) l
      (λ p h. let g : p < c = omega (arith, length-take c z) in get_or-take c z p d g ∙ same p g ∙ sym (get_or-take c u p d g))

  same_tail : ((p : ℕ) → c ≤ p → get_or z p d ≡ get_or u p d) → drop c z ≡ drop c u
  same_tail same =
      let l : length (drop c z) ≡ length (drop c u) = simp (length-drop, long) in
      ext_get_or d (drop c z) (drop c u) l (λ p h. get_or-drop c z p d ∙ same (c + p) (omega arith) ∙ sym (get_or-drop c u p d))

module _ (n levels : ℕ) (t : Lent) (ps : List ℤ) where
  pub lengths_stay : (length (refine_valences n levels t ps) ≡ length t.valences) × ((length (refine_rings n levels t ps) ≡ length t.rings) × (length (refine_positions n levels t ps) ≡ length ps))
  lengths_stay =
      by_verdict n levels t ps (λ u p. (length u.valences ≡ length t.valences) × ((length u.rings ≡ length t.rings) × (length p ≡ length ps))) (refl, (refl, refl))
      (λ a. (T.valences_length n levels t ps a levels (omega arith), (T.rings_length n levels t ps a levels (omega arith), T.positions_length n levels t ps a levels (omega arith))))

  pub level_0_stays : (take n (refine_valences n levels t ps) ≡ take n t.valences) × ((take (n * 32) (refine_rings n levels t ps) ≡ take (n * 32) t.rings) × (take (n * 3) (refine_positions n levels t ps) ≡ take (n * 3) ps))
  level_0_stays =
      by_verdict n levels t ps (λ u p. (take n u.valences ≡ take n t.valences) × ((take (n * 32) u.rings ≡ take (n * 32) t.rings) × (take (n * 3) p ≡ take (n * 3) ps))) (refl, (refl, refl))
      (λ a. (
        same_front 0 (stacked_valences n levels t) t.valences n (T.valences_length n levels t ps a levels (omega arith)) (T.control_valence n levels t ps a levels (omega arith)),
        (
          same_front 0 (stacked_rings n levels t) t.rings (n * 32) (T.rings_length n levels t ps a levels (omega arith)) (T.control_place n levels t ps a levels (omega arith)),
          same_front (pos 0) (stacked_positions n levels t ps) ps (n * 3) (T.positions_length n levels t ps a levels (omega arith)) (T.control_number n levels t ps a levels (omega arith)),
        ),
      ))

  -- how many vertices the stack has
  abbrev whole : ℕ
  whole = stack_count (sizes_of n (rows n t)) levels

  ends : (a : AcceptsStack n levels t ps) → sum (λ j. (level (rows n t) j).count) (suc levels) ≡ whole
  unfolding stack_count
  ends a = sym (T.start_is n levels t ps a (suc levels))

  pub tails_stay : (drop whole (refine_valences n levels t ps) ≡ drop whole t.valences) × ((drop (whole * 32) (refine_rings n levels t ps) ≡ drop (whole * 32) t.rings) × (drop (whole * 3) (refine_positions n levels t ps) ≡ drop (whole * 3) ps))
  tails_stay =
      by_verdict n levels t ps (λ u p. (drop whole u.valences ≡ drop whole t.valences) × ((drop (whole * 32) u.rings ≡ drop (whole * 32) t.rings) × (drop (whole * 3) p ≡ drop (whole * 3) ps))) (refl, (refl, refl))
      (λ a.
      let e = ends a in (
        same_tail 0 (stacked_valences n levels t) t.valences whole (T.valences_length n levels t ps a levels (omega arith)) (λ p h. T.valence_behind n levels t ps a levels (omega arith) p (omega arith)),
        (
          same_tail 0 (stacked_rings n levels t) t.rings (whole * 32) (T.rings_length n levels t ps a levels (omega arith)) (λ p h. T.place_behind n levels t ps a levels (omega arith) p (omega arith)),
          same_tail (pos 0) (stacked_positions n levels t ps) ps (whole * 3) (T.positions_length n levels t ps a levels (omega arith)) (λ p h. T.number_behind n levels t ps a levels (omega arith) p (omega arith)),
        ),
      ))
