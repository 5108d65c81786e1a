-- Tables with rows written, and a point: where the mesh so rewritten is sound they pass the check, with V, E and F of that mesh.
-- Assumes nothing.
use mathlib.Core.Path.{◌≡◌, refl, sym, ◌∙◌, subst}
use mathlib.Core.List.{List}
use mathlib.Core.Logic.{◌⊎◌, inl, inr, ⊎_elim}
use Prim.Native.Nat.{ℕ, zero, suc, ◌+◌, ◌*◌, ◌≤◌, ◌<◌}
use native.Mathlib.Omega.{arith}
use lib.IntN.{ℤ, pos}
use lib.ListN.{length, get_or}
use Rattle.mesh.specs.Limits.{most_units}
use Rattle.mesh.specs.Mesh.{Mesh, Sound, edges, faces}
use Rattle.mesh.proofs.Lists.{lt_split}
use Rattle.mesh.proofs.Rings.{All}
use Rattle.units.specs.Coordinate.{InRange}
use Rattle.rings.specs.Table.{Lent, lent, rows, coordinate_at}
use Rattle.rings.specs.Verdict.{with_counts}
use Rattle.rings.specs.Check.{check_answer}
use Rattle.rings.specs.Accepts.{Accepts}
use Rattle.rings.proofs.Tables.{length_put, put_before, put_within}
use Rattle.rings.proofs.Accepted.{accepted_all}
use Rattle.reshape.specs.Rows.{Row, rewritten}
use Rattle.loop_points.specs.Level.{point_by, coordinates}
use Rattle.reshape.specs.Mean.{mean_mask, mean_at}
use Rattle.reshape.proofs.MeansStayInRange.{mean_stays_in_range}
use Rattle.reshape_tables.specs.Written.{valences_by, rings_by, mean_put}
use Rattle.reshape_tables.proofs.Judged.{NewRow}
use Rattle.reshape_tables.proofs.RowsWritten.{Named, RowsFit, fit_writable, lengths_by, valence_by, rows_by}
use Rattle.rings.specs.Refusal.{counted}

-- ---- the point

module _ (n : ℕ) (l : List ℕ) (ps : List ℤ) (long : n * 3 + 3 ≤ length ps) where
  positions_kept : length (mean_put n l ps) ≡ length ps
  unfolding mean_put
  positions_kept = length_put ps (n * 3) _ long

  coordinate_old : (axis v : ℕ) → axis < 3 → v < n → coordinate_at (mean_put n l ps) axis v ≡ coordinate_at ps axis v
  unfolding mean_put coordinate_at
  coordinate_old axis v a h = put_before ps (n * 3) _ long (pos 0) (v * 3 + axis) (omega arith)

  coordinate_new : (axis : ℕ) → axis < 3 → coordinate_at (mean_put n l ps) axis n ≡ mean_at l (coordinate_at ps axis)
  unfolding mean_put coordinate_at point_by mean_at
  coordinate_new axis a = put_within ps (n * 3) _ long (pos 0) axis a ∙ pick axis a
    where
      pick : (axis : ℕ) → axis < 3
          → get_or (coordinates (point_by (mean_mask l) ps)) axis (pos 0) ≡ mean_at l (coordinate_at ps axis)
      pick zero h = refl
      pick (suc zero) h = refl
      pick (suc (suc zero)) h = refl
      pick (suc (suc (suc k))) h = absurd (omega arith)

-- ---- all three tables

module _ (n : ℕ) (t : Lent) (ps : List ℤ) (a : Accepts n t ps) (l : List Row) where
  pub flip_passes : RowsFit n l → Sound (rewritten (rows n t) n l) → Accepts n (lent (valences_by l t.valences) (rings_by l t.rings)) ps
  flip_passes f s =
      let w = fit_writable n t a.room l f in
      let k = lengths_by t l w in
      let r = a.room in
      record {
        low = a.low;
        high = a.high;
        room = record { valences = omega (arith, r.valences); rings = omega (arith, r.rings) };
        points = a.points;
        most = λ v h. valence_by t l w v (inl (a.most v h));
        sound = subst Sound (sym (rows_by n n t a.room a.most l f (λ v h. inl h))) s;
        near = a.near;
      }

  -- with a row and a point for vertex n too
  module _ (r : NewRow n t ps) (f : RowsFit (suc n) l) (named : Named n l) where
    old_or_new : (v : ℕ) → v < suc n → (v < n) ⊎ Named v l
    old_or_new v h = ⊎_elim (λ g. inl g.1) (λ g. let e : n ≡ v = omega arith in inr (subst (λ y. Named y l) e named)) (lt_split v n)

    pub split_rows : rows (suc n) (lent (valences_by l t.valences) (rings_by l t.rings)) ≡ rewritten (rows n t) (suc n) l
    split_rows = rows_by n (suc n) t r.room a.most l f old_or_new

    module _ (corners : List ℕ) (some : 0 < length corners) (below : All (λ v. v < n) corners) where
      new_near : (axis : ℕ) → axis < 3 → InRange (coordinate_at (mean_put n corners ps) axis n)
      new_near axis g =
          rw (coordinate_new n corners ps r.points axis g)
          (mean_stays_in_range n (coordinate_at ps axis) corners some below most_units (λ u z. a.near u z axis g))

      pub split_passes : Sound (rewritten (rows n t) (suc n) l) → Accepts (suc n) (lent (valences_by l t.valences) (rings_by l t.rings)) (mean_put n corners ps)
      split_passes s =
          let w = fit_writable (suc n) t r.room l f in
          let k = lengths_by t l w in
          let p = positions_kept n corners ps r.points in
          record {
            low = omega (arith, a.low);
            high = omega (arith, r.number);
            room = record { valences = omega (arith, r.room.valences); rings = omega (arith, r.room.rings) };
            points = omega (arith, r.points);
            most = λ v h. valence_by t l w v (⊎_elim (λ g. inl (a.most v g)) inr (old_or_new v h));
            sound = subst Sound (sym split_rows) s;
            near = λ v h axis g.
                ⊎_elim
                (λ q. rw (coordinate_old n corners ps r.points axis v g q.1) (a.near v q.1 axis g))
                (λ q. let e : n ≡ v = omega arith in subst (λ y. InRange (coordinate_at (mean_put n corners ps) axis y)) e (new_near axis g))
                (lt_split v n);
          }

-- what the check then answers
pub passes_counts : (n : ℕ) (t : Lent) (ps : List ℤ) (N : Mesh) → Accepts n t ps → rows n t ≡ N
    → check_answer n t ps ≡ counted n (edges N) (faces N)
unfolding check_answer with_counts
passes_counts n t ps N a e = rw (accepted_all n t ps a, e)
