-- Flipping the flipped edge (document 02, order 1): nothing stands against it, and it gives back the old rings up to where
-- each begins.
-- Assumes nothing.
use mathlib.Core.Path.{◌≡◌, sym, subst}
use mathlib.Core.Bool.{false}
use mathlib.Core.Logic.{⊎_elim}
use Prim.Native.Nat.{ℕ, ◌<◌, min, max}
use native.Mathlib.Nat.{min-eq_left, min-eq_right, max-eq_left, max-eq_right}
use native.Mathlib.Omega.{arith}
use Rattle.mesh.specs.Ring.{SameRound}
use Rattle.mesh.specs.Mesh.{Mesh, Sound}
use Rattle.mesh.proofs.Lists.{lt_split}
use Rattle.reshape.specs.Reshape.{beyond, behind, flip_rows, flip, no_edge, full_beside, cannot_flip}
use Rattle.reshape.proofs.Kites.{Kite, kite_at, other_end}
use Rattle.reshape.proofs.FlipBack.{Undone, undone}
use Rattle.reshape.proofs.EitherEnd.{flip_either}
use Rattle.reshape.proofs.ReshapingKeepsSoundness.{edge_there, room_beside, can_flip}

module _ (M : Mesh) (S : Sound M) (u v : ℕ) (u_lt : u < M.count) (v_lt : v < M.count) (there : no_edge M (min u v) (max u v) ≡ false)
    (room : full_beside M (min u v) (max u v) ≡ false) (loose : cannot_flip M (min u v) (max u v) ≡ false) where
  -- the vertices that the flip joins
  abbrev pub a : ℕ
  a = beyond M (min u v) (max u v)

  abbrev pub b : ℕ
  b = behind M (min u v) (max u v)

  k : Kite M S (min u v) (max u v) a b
  k = kite_at M S (min u v) (max u v) (omega arith) (edge_there M (min u v) (max u v) there)

  from_a : Undone M (flip M u v) a b
  unfolding flip flip_rows
  from_a =
      let r = room_beside M (min u v) (max u v) room in
      let n = can_flip M (min u v) (max u v) loose in
      undone M S k n.0 n.1 n.2 r.0 r.1

  from_b : Undone M (flip M u v) b a
  unfolding flip flip_rows
  from_b =
      let r = room_beside M (min u v) (max u v) room in
      let n = can_flip M (min u v) (max u v) loose in
      subst (λ N. Undone M N b a) (sym (flip_either M S k))
      (undone M S (other_end M S k) n.1 n.0 (λ m. n.2 (S.mutual' b a k.fb.w_lt m)) r.1 r.0)

  -- the edge that the flip made may be flipped: no test refuses it
  pub may_be_flipped_back : Undone M (flip M u v) (min a b) (max a b)
  may_be_flipped_back =
      ⊎_elim
      (λ h. rw (min-eq_left {n = a} {m = b} (omega arith), max-eq_right {n = a} {m = b} (omega arith)) from_a)
      (λ h. rw (min-eq_right {n = b} {m = a} h.1, max-eq_left {n = a} {m = b} h.1) from_b)
      (lt_split a b)

  -- and the rings are the old ones, up to where each begins
  pub flipping_back : (y : ℕ) → y < M.count → SameRound (M.ring y) ((flip (flip M u v) a b).ring y)
  unfolding flip
  flipping_back y h = may_be_flipped_back.rings y h
