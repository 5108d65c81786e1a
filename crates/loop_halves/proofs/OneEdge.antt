-- One edge from one of its ends: where its new vertex goes, and what writing half its row, or its point, makes right. Assumes nothing.
use Prim.Native.Nat.{ℕ, ◌+◌, ◌*◌, ◌≤◌, ◌<◌}
use mathlib.Core.Path.{◌≡◌, refl, sym, ap, subst, ◌∙◌}
use mathlib.Core.List.{List}
use mathlib.Core.Logic.{◌⊎◌}
use native.Mathlib.Omega.{arith}
use lib.IntN.{ℤ, pos}
use lib.ListN.{length, get_or, take, drop, set, replicate}
use Rattle.mesh.specs.Limits.{null_vertex}
use Rattle.mesh.specs.Mesh.{edges}
use Rattle.mesh.specs.Ring.{next, prev}
use Rattle.loop_step.specs.Loop.{edge_mask}
use Rattle.loop_step.specs.Refine.{mid}
use Rattle.loop_step.proofs.Mids as E
use Rattle.rings.specs.Table.{Lent, valence_at, put, ring_of, rows}
use Rattle.loop_points.specs.Level.{Ready, Levels, point_by, edge_point_by, coordinates}
use Rattle.loop_points.proofs.Mids.{q_in}
use Rattle.loop_halves.specs.Nearer.{Nearer, Halves, Points, OnePlace, rings_next, positions_next, number_at}
use Rattle.loop_halves.proofs.Nearing.{low_half, high_half, nearer_put, right_put}
use Rattle.loop_halves.proofs.Targets.{low_p, low_before, low_after, low_unused, high_p, high_before, high_after}
use Rattle.loop_halves.proofs.PointTargets.{edge_target}

-- the first places of a row, as many as are used, are the ring
pub row_is_ring : (t : Lent) (p m : ℕ) {ring : List ℕ} → m ≡ valence_at t p → ring ≡ take m (drop (p * 32) t.rings) → ring ≡ ring_of t p
unfolding ring_of
row_is_ring t p m e f = f ∙ ap (λ (k : ℕ). take k (drop (p * 32) t.rings)) e

-- what holds of place i of p holds of each place that is done
at_place : (G : ℕ → ℕ → Type 0) {p i u j : ℕ} → OnePlace p i u j → G p i → G u j
at_place G {p} {i} {u} {j} d g = subst (λ (y : ℕ). G u y) (sym d.1) (subst (λ (x : ℕ). G x i) (sym d.0) g)

module _ {n : ℕ} {t : Lent} (r : Ready n t) (p i : ℕ) (h : p < n) (l : i < valence_at t p) where
  abbrev q : ℕ
  q = get_or (ring_of t p) i 0

  pub number_range : number_at n t p i < n + edges (rows n t)
  unfolding rows
  number_range = (E.mid_range (rows n t) r.sound.proper r.sound.mutual' p q h (q_in r p i h l q refl)).1

  -- where the row goes
  pub edge_row : (x : ℕ) → x ≡ number_at n t p i → (n + x ≤ 131070) × ((n + x) * 32 + 32 ≤ length t.rings)
  edge_row x e =
      let a = number_range in
      let f = r.fits in
      let b = r.room.rings in
      (omega arith, omega arith)

  module _ (x b a : ℕ) (ex : x ≡ number_at n t p i) (eb : b ≡ mid (rows n t) p (prev (ring_of t p) q)) (ea : a ≡ mid (rows n t) p (next (ring_of t p) q)) {new : List ℕ} where
    pub low_written : p < q → new ≡ put (set (set (set t.rings ((n + x) * 32) p) ((n + x) * 32 + 1) b) ((n + x) * 32 + 5) a) ((n + x) * 32 + 6) (replicate 26 null_vertex)
        → Halves n t new (OnePlace p i)
    low_written low e =
        let T : List ℕ = rings_next n t in
        let y : ℕ = number_at n t p i in
        let e' : new ≡ put (set (set (set t.rings ((n + y) * 32) p) ((n + y) * 32 + 1) b) ((n + y) * 32 + 5) a) ((n + y) * 32 + 6) (replicate 26 null_vertex) =
        subst (λ (x : ℕ). new ≡ put (set (set (set t.rings ((n + x) * 32) p) ((n + x) * 32 + 1) b) ((n + x) * 32 + 5) a) ((n + x) * 32 + 6) (replicate 26 null_vertex)) ex e in
        let w =
        low_half T t.rings ((n + y) * 32) p b a (edge_row y refl).1 (low_p r p i h l q refl low) (eb ∙ low_before r p i h l q refl low) (ea ∙ low_after r p i h l q refl low)
        (low_unused r p i h l q refl low) e' in
        record {
          nearer = w.nearer;
          low = λ u j d. at_place
              (λ u j. u < get_or (ring_of t u) j 0 → (k : ℕ) → k < 32 → (k < 2) ⊎ (4 < k) → get_or new ((n + number_at n t u j) * 32 + k) 0 ≡ get_or T ((n + number_at n t u j) * 32 + k) 0)
              d (λ g k b s. w.right k b s);
          high = λ u j d. at_place
              (λ u j. get_or (ring_of t u) j 0 ≤ u → (k : ℕ) → 1 < k → k < 5 → get_or new ((n + number_at n t u j) * 32 + k) 0 ≡ get_or T ((n + number_at n t u j) * 32 + k) 0)
              d (λ g k b s. absurd (omega arith));
        }

    pub high_written : q ≤ p → new ≡ set (set (set t.rings ((n + x) * 32 + 3) p) ((n + x) * 32 + 4) b) ((n + x) * 32 + 2) a → Halves n t new (OnePlace p i)
    high_written high e =
        let T : List ℕ = rings_next n t in
        let y : ℕ = number_at n t p i in
        let e' : new ≡ set (set (set t.rings ((n + y) * 32 + 3) p) ((n + y) * 32 + 4) b) ((n + y) * 32 + 2) a =
        subst (λ (x : ℕ). new ≡ set (set (set t.rings ((n + x) * 32 + 3) p) ((n + x) * 32 + 4) b) ((n + x) * 32 + 2) a) ex e in
        let w = high_half T t.rings ((n + y) * 32) p b a (edge_row y refl).1 (high_p r p i h l q refl high) (eb ∙ high_before r p i h l q refl high) (ea ∙ high_after r p i h l q refl high) e' in
        record {
          nearer = w.nearer;
          low = λ u j d. at_place
              (λ u j. u < get_or (ring_of t u) j 0 → (k : ℕ) → k < 32 → (k < 2) ⊎ (4 < k) → get_or new ((n + number_at n t u j) * 32 + k) 0 ≡ get_or T ((n + number_at n t u j) * 32 + k) 0)
              d (λ g k b s. absurd (omega arith));
          high = λ u j d. at_place
              (λ u j. get_or (ring_of t u) j 0 ≤ u → (k : ℕ) → 1 < k → k < 5 → get_or new ((n + number_at n t u j) * 32 + k) 0 ≡ get_or T ((n + number_at n t u j) * 32 + k) 0)
              d (λ g k b s. w.right k b s);
        }

module _ {n : ℕ} {t : Lent} {ps : List ℤ} (L : Levels n t ps) (p i : ℕ) (h : p < n) (l : i < valence_at t p) where
  pub edge_point_room : (x : ℕ) → x ≡ number_at n t p i → (n + x) * 3 + 3 ≤ length ps
  edge_point_room x e =
      let a = number_range L.ready p i h l in
      let b = L.points in
      omega arith

  pub point_written : (x : ℕ) → x ≡ number_at n t p i → p < get_or (ring_of t p) i 0 → {new : List ℤ}
      → new ≡ put ps ((n + x) * 3) (coordinates (edge_point_by (ring_of t p) ps p (get_or (ring_of t p) i 0))) → Points n t ps new (OnePlace p i)
  unfolding edge_point_by
  point_written x ex low {new} e =
      let q : ℕ = get_or (ring_of t p) i 0 in
      let T : List ℤ = positions_next n t ps in
      let y : ℕ = number_at n t p i in
      let b : List ℤ = coordinates (point_by (edge_mask p q (next (ring_of t p) q) (prev (ring_of t p) q)) ps) in
      let e' : new ≡ put ps ((n + y) * 3) b = subst (λ (x : ℕ). new ≡ put ps ((n + x) * 3) b) ex e in
      let f : (axis : ℕ) → axis < 3 → get_or b axis (pos 0) ≡ get_or T ((n + y) * 3 + axis) (pos 0) = edge_target L p i h l q refl low in
      record {
        nearer = subst (λ (table : List ℤ). Nearer (pos 0) T ps table) (sym e') (nearer_put (pos 0) T ps ((n + y) * 3) b (edge_point_room y refl) f);
        low = λ u j d. at_place
            (λ u j. u < get_or (ring_of t u) j 0 → (axis : ℕ) → axis < 3 → get_or new ((n + number_at n t u j) * 3 + axis) (pos 0) ≡ get_or T ((n + number_at n t u j) * 3 + axis) (pos 0))
            d (λ g axis a. ap (λ (table : List ℤ). get_or table ((n + y) * 3 + axis) (pos 0)) e' ∙ right_put (pos 0) T ps ((n + y) * 3) b (edge_point_room y refl) f axis a);
      }

  -- nothing to write where the edge goes down
  pub no_point : get_or (ring_of t p) i 0 ≤ p → Points n t ps ps (OnePlace p i)
  no_point high = record {
    nearer = record { long = refl; keeps = λ a g. g };
    low = λ u j d. at_place
        (λ u j. u < get_or (ring_of t u) j 0 → (axis : ℕ) → axis < 3 → get_or ps ((n + number_at n t u j) * 3 + axis) (pos 0) ≡ get_or (positions_next n t ps) ((n + number_at n t u j) * 3 + axis) (pos 0))
        d (λ g axis a. absurd (omega arith));
  }
