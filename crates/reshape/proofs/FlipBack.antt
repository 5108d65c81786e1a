-- The flipped edge flipped back, vertex by vertex: nothing stands against it, and each ring is as it was up to where it begins.
-- Assumes nothing.
use mathlib.Core.Path.{◌≡◌, refl, sym, ap, ◌∙◌, subst}
use mathlib.Core.Bool.{false, not}
use mathlib.Core.List.{[], ◌∷◌}
use Prim.Native.Nat.{ℕ, ◌<◌}
use native.Mathlib.Omega.{arith}
use lib.ListN.{length}
use borrow.Author.Tests.{lt-leb}
use Rattle.mesh.specs.Limits.{least_valence, most_valence}
use Rattle.mesh.specs.Ring.{◌∈◌, has, next, prev, SameRound}
use Rattle.mesh.specs.Edits.{erase, insert_after}
use Rattle.mesh.specs.Mesh.{Mesh, Sound}
use Rattle.mesh.proofs.First.{or_both, by_cases}
use Rattle.mesh.proofs.Places.{has_in, in_has}
use Rattle.mesh.proofs.SoundMeshes.{prev_next}
use Rattle.mesh.proofs.EditedEntries as X
use Rattle.mesh.proofs.SameRounds.{same_round}
use Rattle.reshape.specs.Rows.{rewritten}
use Rattle.reshape.specs.Reshape.{flip_rows, no_edge, full, full_beside, cannot_flip}
use Rattle.reshape.proofs.Triangles.{at_each}
use Rattle.reshape.proofs.Kites.{Kite}
use Rattle.reshape.proofs.EdgeFlip as F
use Rattle.reshape.proofs.Rounds.{erase_inserted, insert_erased}

-- in N nothing stands against flipping the edge a, b, and that gives the rings of M
pub record Undone (M N : Mesh) (a b : ℕ) : Type 0 where
  pub known : (a < N.count) × (b < N.count)
  pub edge : no_edge N a b ≡ false
  pub room : full_beside N a b ≡ false
  pub loose : cannot_flip N a b ≡ false
  pub rings : (v : ℕ) → v < M.count → SameRound (M.ring v) ((rewritten N N.count (flip_rows N a b)).ring v)

module _ (M : Mesh) (S : Sound M) {p q a b : ℕ} (k : Kite M S p q a b)
    (long_p : least_valence < length (M.ring p)) (long_q : least_valence < length (M.ring q)) (apart : b ∈ M.ring a → ⊥)
    (room-a : length (M.ring a) < most_valence) (room-b : length (M.ring b) < most_valence) where
  -- the mesh flipped
  abbrev once : Mesh
  once = F.N M S k

  T : Sound once
  T = F.flip_sound M S k long_p long_q apart room-a room-b

  k' : Kite once T a b q p
  unfolding T
  k' = F.flipped_kite M S k long_p long_q apart room-a room-b

  -- and flipped back
  abbrev back : Mesh
  back = F.N once T k'

  -- the ring of y is as it was, up to where it begins
  abbrev Back : ℕ → Type 0
  Back y = y < M.count → SameRound (M.ring y) (back.ring y)

  back_a : Back a
  back_a g =
      same_round (M.ring a) (back.ring a)
      (F.at_p once T k'
      ∙ ap (erase b) (F.at_a M S k)
      ∙ erase_inserted (M.ring a) (S.proper a g).distinct p b k.fa.tri.2.0 apart)

  back_b : Back b
  back_b g =
      same_round (M.ring b) (back.ring b)
      (F.at_q once T k'
      ∙ ap (erase a) (F.at_b M S k)
      ∙ erase_inserted (M.ring b) (S.proper b g).distinct q a k.fb.tri.2.0 (λ m. apart (S.mutual' b a g m)))

  back_q : Back q
  back_q g =
      subst (SameRound (M.ring q)) (sym (F.at_a once T k' ∙ ap (insert_after a p) (F.at_q M S k)))
      (insert_erased (M.ring q) (S.proper q g).distinct a p k.fa.tri.1 (λ e. k.p_a (sym e)))

  back_p : Back p
  back_p g =
      subst (SameRound (M.ring p)) (sym (F.at_b once T k' ∙ ap (insert_after b q) (F.at_p M S k)))
      (insert_erased (M.ring p) (S.proper p g).distinct b q k.fb.tri.1 (λ e. k.q_b (sym e)))

  flipped_back : (v : ℕ) → Back v
  flipped_back v =
      at_each Back (a ∷ b ∷ q ∷ p ∷ []) (back_a, (back_b, (back_q, (back_p, tt)))) v
      (λ o g.
      same_round (M.ring v) (back.ring v)
      (F.at_other once T k' v (omega (arith, F.same_count M S k)) o.0 o.1.0 o.1.1.0 o.1.1.1.0
      ∙ F.at_other M S k v g o.1.1.1.0 o.1.1.0 o.0 o.1.0))

  -- ---- nothing stands against it

  back_edge : no_edge once a b ≡ false
  unfolding no_edge
  back_edge = ap not (in_has b (once.ring a) k'.fa.tri.0.0)

  at_q : next (once.ring a) b ≡ q
  at_q = k'.fa.tri.0.1

  at_p : prev (once.ring a) b ≡ p
  at_p = prev_next once T a b k'.fa.v_lt k'.fa.tri.0.0 ∙ k'.fb.tri.0.1

  back_room : full_beside once a b ≡ false
  unfolding full_beside full
  back_room =
      rw (at_q, at_p)
      (or_both _ _
      (lt-leb most_valence (length (once.ring q)) (omega (arith, F.valence_q M S k apart, (S.proper q k.fa.u_lt).short)))
      (lt-leb most_valence (length (once.ring p)) (omega (arith, F.valence_p M S k apart, (S.proper p k.fa.v_lt).short))))

  gone : p ∈ once.ring q → ⊥
  gone m = ((X.erase_in (M.ring q) (S.proper q k.fa.u_lt).distinct p p k.fb.tri.0.0).0 (rw (F.at_q M S k) at m)).1 refl

  back_loose : cannot_flip once a b ≡ false
  unfolding cannot_flip
  back_loose =
      rw (at_q, at_p)
      (or_both _ _
      (lt-leb (length (once.ring a)) least_valence (omega (arith, F.valence_a M S k apart, S.three a k.fa.w_lt)))
      (or_both _ _
      (lt-leb (length (once.ring b)) least_valence (omega (arith, F.valence_b M S k apart, S.three b k.fb.w_lt)))
      (by_cases (has p (once.ring q)) (λ e. gone (has_in p (once.ring q) e)))))

  pub undone : Undone M once a b
  unfolding flip_rows
  undone = record {
    known = (k'.fa.v_lt, k'.fa.u_lt);
    edge = back_edge;
    room = back_room;
    loose = back_loose;
    rings = λ v h. rw (at_q, at_p) (flipped_back v h);
  }
