-- An accepted edit leaves tables that pass the check: they hold the mesh that the edit says, sound and with its coordinates in the range,
-- and the check answers the V, E and F that the edit answered. V - E + F is what it was (document 02, order 1).
-- Assumes nothing.
use mathlib.Core.Path.{◌≡◌, refl, sym, ◌∙◌, subst}
use mathlib.Core.List.{List, [], ◌∷◌}
use mathlib.Core.Logic.{inl, inr}
use Prim.Native.Nat.{ℕ, suc, ◌<◌, min, max}
use native.Mathlib.Omega.{arith}
use lib.Dec.{lit<}
use lib.IntN.{ℤ}
use Rattle.mesh.specs.Mesh.{Mesh}
use Rattle.mesh.proofs.Rings.{All}
use Rattle.rings.specs.Table.{Lent, lent, rows}
use Rattle.rings.specs.Verdict.{after, with_counts}
use Rattle.rings.specs.Check.{check_verdict, check_answer}
use Rattle.rings.specs.Accepts.{Accepts}
use Rattle.rings.proofs.Accepted.{accepted_all}
use Rattle.reshape.specs.Rows.{rewritten}
use Rattle.reshape.specs.Reshape.{Corners, beyond, behind, from_smallest, edge_rows, face_rows, flip_rows, split_edge, split_face, flip}
use Rattle.reshape.proofs.Kites.{Kite, kite_at}
use Rattle.reshape.proofs.ReshapingKeepsSoundness.{Kept, edge_there, face_there, splitting_an_edge, splitting_a_face, flipping_an_edge}
use Rattle.reshape.proofs.SmallestCorner.{smallest_face}
use Rattle.reshape_tables.specs.Written.{valences_by, rings_by, mean_put}
use Rattle.reshape_tables.specs.Calls.{Reshaping, reshape_answer, reshaped_valences, reshaped_rings, reshaped_positions}
use Rattle.reshape_tables.specs.Calls.{split_edge_verdict, split_face_verdict, flip_verdict, edge_splitting, face_splitting, edge_flipping}
use Rattle.reshape_tables.proofs.RowsWritten.{RowsFit, Named, rows_by}
use Rattle.reshape_tables.proofs.RowsFitted.{edge_rows_fit, face_rows_fit, flip_rows_fit}
use Rattle.reshape_tables.proofs.AcceptedTables.{split_rows, split_passes, flip_passes, passes_counts}
use Rattle.reshape_tables.proofs.Judged.{edge_split_judged, face_split_judged, flip_judged}
use Rattle.std.specs.Prelude.{Ok}

-- n vertices in these tables are what the edit says
pub record Passed (e : Reshaping) (n : ℕ) (t : Lent) (ps : List ℤ) : Type 0 where
  pub mesh : rows n t ≡ e.result
  pub checks : check_verdict n t ps ≡ Ok tt
  pub answers : check_answer n t ps ≡ reshape_answer e

passed : (e : Reshaping) (n : ℕ) (t : Lent) (ps : List ℤ) → e.verdict ≡ Ok tt → e.result.count ≡ n
    → rows n t ≡ e.result → Accepts n t ps → Passed e n t ps
unfolding reshape_answer with_counts
passed e n t ps h c m a = record {
  mesh = m;
  checks = accepted_all n t ps a;
  answers = passes_counts n t ps e.result a m ∙ rw (h, c);
}

-- the tables after an accepted edit are those with its rows, and its point
module _ (e : Reshaping) (h : e.verdict ≡ Ok tt) where
  split_passed : (n : ℕ) (t : Lent) (ps : List ℤ) → e.result.count ≡ suc n
      → rows (suc n) (lent (valences_by e.written t.valences) (rings_by e.written t.rings)) ≡ e.result
      → Accepts (suc n) (lent (valences_by e.written t.valences) (rings_by e.written t.rings)) (mean_put n e.between ps)
      → Passed e (suc n) (lent (reshaped_valences e t.valences) (reshaped_rings e t.rings)) (reshaped_positions e n ps)
  unfolding reshaped_valences reshaped_rings reshaped_positions after
  split_passed n t ps c m a =
      subst
      (λ w. Passed e (suc n) (lent (after w (valences_by e.written t.valences) t.valences) (after w (rings_by e.written t.rings) t.rings)) (after w (mean_put n e.between ps) ps))
      (sym h)
      (passed e (suc n) (lent (valences_by e.written t.valences) (rings_by e.written t.rings)) (mean_put n e.between ps) h c m a)

  flip_passed : (n : ℕ) (t : Lent) (ps : List ℤ) → e.result.count ≡ n
      → rows n (lent (valences_by e.written t.valences) (rings_by e.written t.rings)) ≡ e.result
      → Accepts n (lent (valences_by e.written t.valences) (rings_by e.written t.rings)) ps → Passed e n (lent (reshaped_valences e t.valences) (reshaped_rings e t.rings)) ps
  unfolding reshaped_valences reshaped_rings after
  flip_passed n t ps c m a =
      subst (λ w. Passed e n (lent (after w (valences_by e.written t.valences) t.valences) (after w (rings_by e.written t.rings) t.rings)) ps) (sym h)
      (passed e n (lent (valences_by e.written t.valences) (rings_by e.written t.rings)) ps h c m a)

module _ (n : ℕ) (t : Lent) (ps : List ℤ) where
  -- ---- an edge split

  module _ (u v : ℕ) (h : split_edge_verdict n t ps u v ≡ Ok tt) where
    edge_kept : Kept (rows n t) (split_edge (rows n t) u v) 1
    unfolding rows
    edge_kept =
        let j = edge_split_judged n t ps u v h in
        splitting_an_edge (rows n t) j.0.sound u v j.1.u_lt j.1.v_lt j.1.edge j.1.room

    pub edge_split_keeps : Kept (rows n t) (edge_splitting n t ps u v).result 1
    unfolding edge_splitting
    edge_split_keeps = edge_kept

    pub edge_split_passes : let e = edge_splitting n t ps u v in Passed e (suc n) (lent (reshaped_valences e t.valences) (reshaped_rings e t.rings)) (reshaped_positions e n ps)
    unfolding edge_splitting split_edge rows edge_rows rewritten
    edge_split_passes =
        let j = edge_split_judged n t ps u v h in
        let M : Mesh = rows n t in
        let p : ℕ = min u v in
        let q : ℕ = max u v in
        let p_lt : p < n = let a = j.1.u_lt in let b = j.1.v_lt in omega arith in
        let q_lt : q < n = let a = j.1.u_lt in let b = j.1.v_lt in omega arith in
        let k : Kite M j.0.sound p q (beyond M p q) (behind M p q) = kite_at M j.0.sound p q p_lt (edge_there M p q j.1.edge) in
        let f : RowsFit (suc n) (edge_rows M p q) = edge_rows_fit M j.0.sound k edge_kept.sound in
        let x : Named n (edge_rows M p q) = inr (inr (inr (inr (inl refl)))) in
        split_passed (edge_splitting n t ps u v) h n t ps refl
        (split_rows n t ps j.0 (edge_rows M p q) j.2 f x)
        (split_passes n t ps j.0 (edge_rows M p q) j.2 f x (p ∷ q ∷ []) (lit< tt) (p_lt, (q_lt, tt)) edge_kept.sound)

  -- ---- a face split

  module _ (u v w : ℕ) (h : split_face_verdict n t ps u v w ≡ Ok tt) where
    face_kept : Kept (rows n t) (split_face (rows n t) u v w) 1
    unfolding rows
    face_kept =
        let j = face_split_judged n t ps u v w h in
        splitting_a_face (rows n t) j.0.sound u v w j.1.v_lt j.1.face j.1.room

    pub face_split_keeps : Kept (rows n t) (face_splitting n t ps u v w).result 1
    unfolding face_splitting
    face_split_keeps = face_kept

    pub face_split_passes : let e = face_splitting n t ps u v w in Passed e (suc n) (lent (reshaped_valences e t.valences) (reshaped_rings e t.rings)) (reshaped_positions e n ps)
    unfolding face_splitting split_face rows face_rows rewritten
    face_split_passes =
        let j = face_split_judged n t ps u v w h in
        let M : Mesh = rows n t in
        let c : Corners = from_smallest u v w in
        let l : List ℕ = c.one ∷ c.two ∷ c.three ∷ [] in
        let z = smallest_face M j.0.sound u v w (face_there M j.0.sound u v w j.1.v_lt j.1.face) in
        let b : All (λ y. y < n) l = (z.u_lt, (z.v_lt, (z.w_lt, tt))) in
        let f : RowsFit (suc n) (face_rows M c) = face_rows_fit M j.0.sound z face_kept.sound in
        let x : Named n (face_rows M c) = inr (inr (inr (inl refl))) in
        split_passed (face_splitting n t ps u v w) h n t ps refl
        (split_rows n t ps j.0 (face_rows M c) j.2 f x)
        (split_passes n t ps j.0 (face_rows M c) j.2 f x l (lit< tt) b face_kept.sound)

  -- ---- an edge flipped

  module _ (u v : ℕ) (h : flip_verdict n t ps u v ≡ Ok tt) where
    flip_kept : Kept (rows n t) (flip (rows n t) u v) 0
    unfolding rows
    flip_kept =
        let j = flip_judged n t ps u v h in
        flipping_an_edge (rows n t) j.0.sound u v j.1.u_lt j.1.v_lt j.1.edge j.1.room j.2

    pub flip_keeps : Kept (rows n t) (edge_flipping n t ps u v).result 0
    unfolding edge_flipping
    flip_keeps = flip_kept

    pub flip_passes_check : let e = edge_flipping n t ps u v in Passed e n (lent (reshaped_valences e t.valences) (reshaped_rings e t.rings)) ps
    unfolding edge_flipping flip rows flip_rows rewritten
    flip_passes_check =
        let j = flip_judged n t ps u v h in
        let M : Mesh = rows n t in
        let p : ℕ = min u v in
        let q : ℕ = max u v in
        let p_lt : p < n = let a = j.1.u_lt in let b = j.1.v_lt in omega arith in
        let k : Kite M j.0.sound p q (beyond M p q) (behind M p q) = kite_at M j.0.sound p q p_lt (edge_there M p q j.1.edge) in
        let f : RowsFit n (flip_rows M p q) = flip_rows_fit M j.0.sound k flip_kept.sound in
        flip_passed (edge_flipping n t ps u v) h n t ps refl
        (rows_by n n t j.0.room j.0.most (flip_rows M p q) f (λ y g. inl g))
        (flip_passes n t ps j.0 (flip_rows M p q) f flip_kept.sound)
