-- The rows of each edit fit a row of the table: they are of vertices of the new mesh, and its rings are short. Assumes nothing.
use mathlib.Core.Path.{◌≡◌, subst}
use mathlib.Core.List.{List}
use Prim.Native.Nat.{ℕ, suc, ◌≤◌, ◌<◌}
use native.Mathlib.Omega.{arith}
use lib.Dec.{lit≤}
use lib.ListN.{length}
use Rattle.mesh.specs.Limits.{most_valence}
use Rattle.mesh.specs.Mesh.{Mesh, Sound}
use Rattle.mesh.proofs.SoundMeshes.{Face}
use Rattle.reshape.specs.Rows.{rewritten}
use Rattle.reshape.specs.Reshape.{edge_rows_of, face_rows_of, flip_rows_of}
use Rattle.reshape.proofs.Kites.{Kite}
use Rattle.reshape.proofs.EdgeSplit as E
use Rattle.reshape.proofs.FaceSplit as T
use Rattle.reshape.proofs.EdgeFlip as F
use Rattle.reshape_tables.proofs.RowsWritten.{RowsFit}

-- a row of the sound mesh N fits, and so do those behind it
row_fits : (N : Mesh) → Sound N → {v : ℕ} {ring : List ℕ} {Behind : Type 0} → v < N.count → N.ring v ≡ ring → Behind
    → (v < N.count) × ((length ring ≤ most_valence) × Behind)
row_fits N s {v} h e f = (h, (subst (λ t. length t ≤ most_valence) e (s.proper v h).short, f))

module _ (M : Mesh) (S : Sound M) where
  pub edge_rows_fit : {p q a b : ℕ} (k : Kite M S p q a b) → Sound (E.N M S k) → RowsFit (suc M.count) (edge_rows_of M.ring p q a b M.count)
  unfolding rewritten
  edge_rows_fit {p} {q} {a} {b} k s =
      let hp : p < suc M.count = let h = k.fa.v_lt in omega arith in
      let hq : q < suc M.count = let h = k.fa.u_lt in omega arith in
      let ha : a < suc M.count = let h = k.fa.w_lt in omega arith in
      let hb : b < suc M.count = let h = k.fb.w_lt in omega arith in
      row_fits (E.N M S k) s hp (E.at_p M S k)
      (row_fits (E.N M S k) s hq (E.at_q M S k)
      (row_fits (E.N M S k) s ha (E.at_a M S k)
      (row_fits (E.N M S k) s hb (E.at_b M S k)
      (omega arith, (lit≤ tt, tt)))))

  pub flip_rows_fit : {p q a b : ℕ} (k : Kite M S p q a b) → Sound (F.N M S k) → RowsFit M.count (flip_rows_of M.ring p q a b)
  unfolding rewritten
  flip_rows_fit k s =
      row_fits (F.N M S k) s k.fa.v_lt (F.at_p M S k)
      (row_fits (F.N M S k) s k.fa.u_lt (F.at_q M S k)
      (row_fits (F.N M S k) s k.fa.w_lt (F.at_a M S k)
      (row_fits (F.N M S k) s k.fb.w_lt (F.at_b M S k)
      tt)))

  pub face_rows_fit : {u v w : ℕ} (f : Face M S v u w) → Sound (T.N M S f) → RowsFit (suc M.count) (face_rows_of M.ring u v w M.count)
  unfolding rewritten
  face_rows_fit {u} {v} {w} f s =
      let hu : u < suc M.count = let h = f.u_lt in omega arith in
      let hv : v < suc M.count = let h = f.v_lt in omega arith in
      let hw : w < suc M.count = let h = f.w_lt in omega arith in
      row_fits (T.N M S f) s hu (T.at_u M S f)
      (row_fits (T.N M S f) s hv (T.at_v M S f)
      (row_fits (T.N M S f) s hw (T.at_w M S f)
      (omega arith, (lit≤ tt, tt))))
