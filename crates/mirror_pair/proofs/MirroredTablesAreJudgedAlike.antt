-- Two sets of tables whose control meshes are mirrored (document 02, order 3), sound or not: the check and a refinement accept both, with the same
-- counts, or refuse both, with the same number and place.
-- Assumes nothing.
use mathlib.Core.Path.{◌≡◌, refl, sym, ap, ap₂, ◌∙◌}
use mathlib.Core.Bool.{◌||◌}
use mathlib.Core.List.{List}
use Prim.Native.Nat.{ℕ, zero, suc, ◌<◌}
use lib.Dec.{ltb}
use lib.IntN.{ℤ, pos, negsuc, neg_ℤ, nat_abs}
use borrow.Author.Tests.{lt-ltb}
use Rattle.mesh.specs.Limits.{least_valence, most_valence}
use Rattle.mesh.specs.Ring.{◌∈◌}
use Rattle.mesh.specs.Mesh.{Mesh, Proper, Sound, edges, faces}
use Rattle.mesh.specs.Tests.{improper, one_sided, open_faced}
use Rattle.mesh.proofs.Checked as C
use Rattle.mesh.proofs.First.{Clear, or_false, same_failures}
use Rattle.loop_step.specs.Refine.{level}
use Rattle.units.specs.Coordinate.{beyond}
use Rattle.rings.specs.Table.{Lent, valence_at, rows, coordinate_at}
use Rattle.rings.specs.Check.{bad_count, short_rings, short_tables, improper_row, unfit_row, beyond_at, check_verdict, check_answer}
use Rattle.rings.specs.Verdict.{refuse_if, with_counts}
use Rattle.rings.specs.declared.Refusal.TheVariants.{VertexCount, TableTooShort, RingImproper, NotMutual, NotTriangle, ControlCoordinate}
use Rattle.rings.proofs.Verdicts.{at_same}
use Rattle.stack_judge.specs.Stack.{short_stack}
use Rattle.stack_judge.specs.StackVerdict.{stack_verdict}
use Rattle.stack_judge.proofs.AcceptedStack.{stack_only}
use Rattle.mirror.specs.Mirror.{Mirrored}
use Rattle.mirror.proofs.Mirrorings.{mirrored_back, proper_mirrored, mutual_mirrored, face_mirrored}
use Rattle.mirror.proofs.MirroredMeshIsSound.{same_edges, same_faces}
use Rattle.mirror.proofs.EveryLevelIsMirrored.{every_level_is_mirrored, same_edges_at, same_faces_at}
use Rattle.stack_refine.specs.Refinement.{refine_answer}
use Rattle.mirror_pair.specs.Pair.{Opposite, MirroredTables}
use Rattle.rings.specs.Refusal.{Verdict, counted}
use Rattle.std.specs.Prelude.{Ok, Err}

-- ---- one vertex

abs_negated : (z : ℤ) → nat_abs (neg_ℤ z) ≡ nat_abs z
abs_negated (pos zero) = refl
abs_negated (pos (suc n)) = refl
abs_negated (negsuc n) = refl

-- opposite points are beyond the range alike
pub beyond_alike : (n : ℕ) (ps ps' : List ℤ) → Opposite n ps ps' → (v : ℕ) → v < n → beyond_at ps' v ≡ beyond_at ps v
unfolding beyond_at beyond
beyond_alike n ps ps' o v h = rw (o.x v h, o.y v h, o.z v h, abs_negated (coordinate_at ps 0 v))

module _ (n : ℕ) (t : Lent) (ps : List ℤ) (t' : Lent) (ps' : List ℤ) (y : MirroredTables n t ps t' ps') where
  abbrev M : Mesh
  M = rows n t

  abbrev N : Mesh
  N = rows n t'

  -- the control meshes are mirrored
  pub control_mirrored : Mirrored M N
  unfolding rows
  control_mirrored = record { count = refl; ring = λ v h. rw (lt-ltb v n h) (y.ring v h) }

  back : Mirrored N M
  back = mirrored_back M N control_mirrored

  -- ---- each reason

  improper_alike : (v : ℕ) → v < n → improper M v ≡ improper N v
  unfolding rows
  improper_alike v h =
      same_failures (improper M v) (improper N v)
      (λ e. C.of_proper N v (proper_mirrored M N control_mirrored v h (C.proper_of M v e)))
      (λ e. C.of_proper M v (proper_mirrored N M back v h (C.proper_of N v e)))

  unfit_alike : (v : ℕ) → v < n → unfit_row n t v ≡ unfit_row n t' v
  unfolding unfit_row improper_row
  unfit_alike v h = ap₂ (λ k b. ltb k least_valence || (ltb most_valence k || b)) (sym (y.valence v h)) (improper_alike v h)

  -- where reason 4 passes
  module _ (fit : Clear (unfit_row n t) n) where
    proper : (v : ℕ) → v < n → Proper M v
    unfolding unfit_row improper_row
    proper v h = C.proper_of M v (or_false (ltb most_valence (valence_at t v)) _ (or_false (ltb (valence_at t v) least_valence) _ (fit.below v h)).1).1

    proper' : (v : ℕ) → v < n → Proper N v
    unfolding rows
    proper' v h = proper_mirrored M N control_mirrored v h (proper v h)

    one_sided_alike : (v : ℕ) → v < n → one_sided M v ≡ one_sided N v
    unfolding rows
    one_sided_alike v h =
        same_failures (one_sided M v) (one_sided N v)
        (λ e. C.of_mutual N v (mutual_mirrored M N control_mirrored v h (proper v h) (C.mutual_of M v e)))
        (λ e. C.of_mutual M v (mutual_mirrored N M back v h (proper' v h) (C.mutual_of N v e)))

    -- and reason 5
    module _ (both : Clear (one_sided M) n) where
      open_faced_alike : (v : ℕ) → v < n → open_faced M v ≡ open_faced N v
      unfolding rows
      open_faced_alike v h =
          let mutual₁ : (v u : ℕ) → v < n → u ∈ M.ring v → v ∈ M.ring u = λ v u g. C.mutual_of M v (both.below v g) u in
          let mutual₂ : (v u : ℕ) → v < n → u ∈ N.ring v → v ∈ N.ring u =
          λ v u g. mutual_mirrored M N control_mirrored v g (proper v g) (λ x. mutual₁ v x g) u in
          same_failures (open_faced M v) (open_faced N v)
          (λ e. C.of_face N v (proper' v h).distinct (face_mirrored M N control_mirrored proper mutual₁ v h (C.face_of M v e)))
          (λ e. C.of_face M v (proper v h).distinct (face_mirrored N M back proper' mutual₂ v h (C.face_of N v e)))

  -- ---- the check

  check_alike : check_verdict n t ps ≡ check_verdict n t' ps'
  unfolding check_verdict short_tables short_rings
  check_alike =
      rw (y.valences, y.rings, y.points.long)
      (ap (λ r. refuse_if (bad_count n) VertexCount (refuse_if (short_tables n t ps) TableTooShort r))
      (at_same (unfit_row n t) (unfit_row n t') n RingImproper _ _ unfit_alike
      (λ fit. at_same (one_sided M) (one_sided N) n NotMutual _ _ (one_sided_alike fit)
      (λ both. at_same (open_faced M) (open_faced N) n NotTriangle _ _ (open_faced_alike fit both)
      (λ closed. at_same (beyond_at ps) (beyond_at ps') n ControlCoordinate (Ok tt) (Ok tt) (λ v h. sym (beyond_alike n ps ps' y.points v h)) (λ c. refl))))))

  -- the check answers alike
  pub check_is_answered_alike : check_answer n t' ps' ≡ check_answer n t ps
  unfolding check_answer
  check_is_answered_alike = rw (sym check_alike, same_edges M N control_mirrored, same_faces M N control_mirrored)

  -- ---- a refinement

  module _ (levels : ℕ) where
    -- a stack is accepted or refused alike
    pub stack_is_judged_alike : stack_verdict n levels t' ps' ≡ stack_verdict n levels t ps
    unfolding stack_verdict short_stack
    stack_is_judged_alike = rw (sym check_alike, same_edges M N control_mirrored, same_faces M N control_mirrored, y.valences, y.rings, y.points.long)

    -- and answered alike
    pub refinement_is_answered_alike : refine_answer n levels t' ps' ≡ refine_answer n levels t ps
    unfolding refine_answer with_counts
    refinement_is_answered_alike = rw stack_is_judged_alike (go (stack_verdict n levels t ps) refl)
      where
        go : (v : Verdict) → stack_verdict n levels t ps ≡ v
            → with_counts v (level N levels).count (edges (level N levels)) (faces (level N levels))
            ≡ with_counts v (level M levels).count (edges (level M levels)) (faces (level M levels))
        go (Err r) e = refl
        go (Ok u) e =
            let S : Sound M = (stack_only n levels t ps e).control.sound in
            ap (λ v. counted v (edges (level N levels)) (faces (level N levels))) (every_level_is_mirrored M N S control_mirrored levels).count
            ∙ ap₂ (counted (level M levels).count) (same_edges_at M N S control_mirrored levels) (same_faces_at M N S control_mirrored levels)
