-- Refining two sets of tables whose control meshes are mirrored leaves a pair (document 02, order 3), where it is accepted; and it is
-- accepted on both sides or on neither.
-- Assumes nothing.
use mathlib.Core.Path.{◌≡◌, sym, ◌∙◌}
use mathlib.Core.List.{List, reverse}
use Prim.Native.Nat.{ℕ, ◌<◌}
use lib.IntN.{ℤ}
use lib.ListN.{length}
use Rattle.mesh.proofs.Shuffled.{length_shuffled}
use Rattle.mesh.proofs.SameRounds.{reverse_shuffled, round_shuffled}
use Rattle.rings.specs.Table.{Lent, lent, ring_of}
use Rattle.stack_judge.specs.StackVerdict.{stack_verdict}
use Rattle.stack_refine.specs.Refinement.{refine_valences, refine_rings, refine_positions}
use Rattle.stack_refine.proofs.StackKeeps.{lengths_stay}
use Rattle.mirror_pair.specs.Pair.{MirroredTables, Pair}
use Rattle.mirror_pair.proofs.MirroredTablesAreJudgedAlike.{stack_is_judged_alike}
use Rattle.mirror_pair.proofs.Opposites.{opposite_again}
use Rattle.mirror_pair.proofs.TrueStacks.{control_ring, control_valence, control_point, refinement_leaves_a_true_stack}
use Rattle.std.specs.Prelude.{Ok}

module _ (n levels : ℕ) (t : Lent) (ps : List ℤ) (t' : Lent) (ps' : List ℤ) (z : MirroredTables n t ps t' ps')
    (e : stack_verdict n levels t ps ≡ (Ok tt)) where
  left : (Ok tt) ≡ stack_verdict n levels t ps
  left = sym e

  right : (Ok tt) ≡ stack_verdict n levels t' ps'
  right = sym (stack_is_judged_alike n t ps t' ps' z levels ∙ e)

  same_length : (v : ℕ) → v < n → length (ring_of t' v) ≡ length (ring_of t v)
  same_length v h =
      let r : List ℕ = reverse (ring_of t v) in
      sym (length_shuffled (round_shuffled r (ring_of t' v) (z.ring v h))) ∙ sym (length_shuffled (reverse_shuffled (ring_of t v)))

  controls_stay : MirroredTables n
      (lent (refine_valences n levels t ps) (refine_rings n levels t ps)) (refine_positions n levels t ps)
      (lent (refine_valences n levels t' ps') (refine_rings n levels t' ps')) (refine_positions n levels t' ps')
  controls_stay =
      let l = lengths_stay n levels t ps in
      let l' = lengths_stay n levels t' ps' in
      record {
        valences = l'.0 ∙ z.valences ∙ sym l.0;
        rings = l'.1.0 ∙ z.rings ∙ sym l.1.0;
        valence = λ v h. control_valence n levels t' ps' right v h ∙ same_length v h ∙ sym (control_valence n levels t ps left v h);
        ring = λ v h. rw (control_ring n levels t ps left v h, control_ring n levels t' ps' right v h) (z.ring v h);
        points = opposite_again n ps ps' (refine_positions n levels t ps) (refine_positions n levels t' ps')
            (l'.1.1 ∙ z.points.long ∙ sym l.1.1) (control_point n levels t ps left) (control_point n levels t' ps' right) z.points;
      }

  -- the theorem
  pub refinement_makes_a_pair : Pair n levels
      (lent (refine_valences n levels t ps) (refine_rings n levels t ps)) (refine_positions n levels t ps)
      (lent (refine_valences n levels t' ps') (refine_rings n levels t' ps')) (refine_positions n levels t' ps')
  refinement_makes_a_pair = record {
    controls = controls_stay;
    left = refinement_leaves_a_true_stack n levels t ps left;
    right = refinement_leaves_a_true_stack n levels t' ps' right;
  }
