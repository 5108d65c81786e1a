-- The marks and the positions of a refresh: the map once the first k vertices of the next level are judged, and the positions once they are set.
-- Assumes nothing.
use Prim.Native.Nat.{ℕ, zero, suc, ◌+◌, ◌-◌, ◌*◌, ◌≤◌, ◌<◌}
use mathlib.Core.Path.{◌≡◌, refl, sym, ap, subst, ◌∙◌}
use mathlib.Core.Bool.{Bool, true, false, cond}
use mathlib.Core.List.{List, [], ◌∷◌}
use mathlib.Core.Logic.{⊎_elim}
use native.Mathlib.Nat.{add-zero}
use native.Mathlib.Omega.{arith}
use lib.IntN.{ℤ, pos}
use lib.ListN.{length, get_or}
use lib.Seq.{ext_get_or}
use borrow.Author.Tests.{lt-ltb, le-ltb, le-leb, lt-leb}
use Rattle.mesh.specs.Mesh.{Mesh, Sound, edges}
use Rattle.mesh.proofs.Lists.{lt_split}
use Rattle.steps.specs.Mask.{Mask}
use Rattle.steps.proofs.Refresh.{by_mask_same}
use Rattle.loop_step.specs.Refine.{refine, level}
use Rattle.loop_step.specs.Loop.{loop_mask, loop}
use Rattle.loop_step.proofs.Levels.{loop_grounded}
use Rattle.units.specs.Coordinate.{InRange}
use Rattle.units.specs.declared.Point.{Point}
use Rattle.rings.specs.Table.{Lent, put, rows, coordinate_at, point_rows}
use Rattle.rings.proofs.Tables.{put_nothing, length_put, put_before, put_within, put_behind, length_gather, gather_same}
use Rattle.rings.proofs.Blocks.{gather_step}
use Rattle.move_map.specs.Map.{NoneFrom}
use Rattle.loop_points.specs.Level.{Levels, point_by, coordinates, next_point}
use Rattle.move_touched.specs.NextLevel.{from, touched_next, marks_up_to, renewed, point_set, points_with, points_up_to}
use Rattle.move_touched.proofs.Touched.{next_same}

-- ---- one vertex set, as the code does it

point_row_lem : (M : Mesh) (ps : List ℤ) (x : ℕ) (μ : Mask) → loop_mask M x ≡ μ
    → coordinates (point_by μ ps) ≡ next_point M ps 0 x ∷ next_point M ps 1 x ∷ next_point M ps 2 x ∷ []
unfolding point_by next_point
point_row_lem M ps x μ e = rw e

pub point_set_lem : (M : Mesh) (ps : List ℤ) (x : ℕ) (μ : Mask) → loop_mask M x ≡ μ → {point : Point} → point ≡ point_by μ ps → {now : List ℤ}
    → now ≡ put ps ((M.count + x) * 3) (coordinates point) → now ≡ point_set M ps x
unfolding point_set
point_set_lem M ps x μ m q h = h ∙ ap (put ps ((M.count + x) * 3)) (ap coordinates q ∙ point_row_lem M ps x μ m)

module _ (M : Mesh) (base : ℕ) (set : ℕ → Bool) (ps : List ℤ) (x : ℕ) (b : Bool) (e : b ≡ set (base + M.count + x)) where
  pub points_yes : b ≡ true → {now : List ℤ} → now ≡ point_set M ps x → now ≡ points_with M base set ps x
  unfolding points_with
  points_yes w h = rw (← e, w) h

  pub points_no : b ≡ false → ps ≡ points_with M base set ps x
  unfolding points_with
  points_no w = rw (← e, w)

-- ---- the marks

module _ (M : Mesh) (base : ℕ) (set : ℕ → Bool) where
  -- number j before the first k vertices of the next level, among them, and behind them
  pub marks_before : (k j : ℕ) → j < base + M.count → marks_up_to M base set k j ≡ set j
  unfolding marks_up_to
  marks_before k j h = rw (lt-leb (base + M.count) j h)

  pub marks_at_lem : (k x : ℕ) → x < k → marks_up_to M base set k (base + M.count + x) ≡ touched_next M (from base set) x
  unfolding marks_up_to
  marks_at_lem k x h =
      let e : base + M.count + x - (base + M.count) ≡ x = omega arith in
      rw (le-leb (base + M.count) (base + M.count + x) (omega arith), lt-ltb (base + M.count + x) (base + M.count + k) (omega arith), e)

  pub marks_behind : (k j : ℕ) → base + M.count + k ≤ j → marks_up_to M base set k j ≡ set j
  unfolding marks_up_to
  marks_behind k j h = rw (le-ltb j (base + M.count + k) h, le-leb (base + M.count) j (omega arith))

-- the vertices of the next level are in the set where they are touched
pub record Settled (M : Mesh) (base : ℕ) (set : ℕ → Bool) : Type 0 where
  pub at : (x : ℕ) → x < M.count + edges M → set (base + M.count + x) ≡ touched_next M (from base set) x

-- ---- once the next level is marked

module _ (M : Mesh) (S : Sound M) (base : ℕ) (before : ℕ → Bool) {after : ℕ → Bool} (marks : after ≡ marks_up_to M base before (M.count + edges M)) where
  at : (j : ℕ) → after j ≡ marks_up_to M base before (M.count + edges M) j
  at j = ap (λ (s : ℕ → Bool). s j) marks

  marked_touched : (x : ℕ) → x < M.count + edges M → touched_next M (from base after) x ≡ touched_next M (from base before) x
  unfolding from
  marked_touched x l =
      next_same M (from base after) S (from base before) (λ v h. at (base + v) ∙ marks_before M base before (M.count + edges M) (base + v) (omega arith)) x l

  pub marked_settled : Settled M base after
  marked_settled = record { at = λ x l. at (base + M.count + x) ∙ marks_at_lem M base before (M.count + edges M) x l ∙ sym (marked_touched x l) }

  pub marked_points : (ps : List ℤ) → points_up_to M base after ps (M.count + edges M) ≡ points_up_to M base before ps (M.count + edges M)
  unfolding points_up_to point_rows renewed
  marked_points ps = ap (put ps (M.count * 3)) (gather_same _ _ (M.count + edges M) (λ x l. rw (marked_touched x l)))

-- ---- a block that is there already

put_same : {A : Type 0} (d : A) (w : List A) (a : ℕ) (b : List A) → a + length b ≤ length w
    → ((i : ℕ) → i < length b → get_or b i d ≡ get_or w (a + i) d) → w ≡ put w a b
put_same d w a b fits same =
    sym (ext_get_or d (put w a b) w (length_put w a b fits) (λ j h.
    ⊎_elim
    (λ l. put_before w a b fits d j l.1)
    (λ l.
    let e : a + (j - a) ≡ j = omega arith in
    ⊎_elim
    (λ m. subst (λ (k : ℕ). get_or (put w a b) k d ≡ get_or w k d) e (put_within w a b fits d (j - a) (omega arith) ∙ same (j - a) (omega arith)))
    (λ m. put_behind w a b fits d j m.1)
    (lt_split j (a + length b)))
    (lt_split j a)))

held_same : (ps : List ℤ) (v : ℕ) → (v + 1) * 3 ≤ length ps → ps ≡ put ps (v * 3) (coordinate_at ps 0 v ∷ coordinate_at ps 1 v ∷ coordinate_at ps 2 v ∷ [])
unfolding coordinate_at
held_same ps v h = put_same (pos 0) ps (v * 3) (get_or ps (v * 3 + 0) (pos 0) ∷ get_or ps (v * 3 + 1) (pos 0) ∷ get_or ps (v * 3 + 2) (pos 0) ∷ []) (omega arith) at
  where
    at : (i : ℕ) → i < 3
        → get_or (get_or ps (v * 3 + 0) (pos 0) ∷ get_or ps (v * 3 + 1) (pos 0) ∷ get_or ps (v * 3 + 2) (pos 0) ∷ []) i (pos 0) ≡ get_or ps (v * 3 + i) (pos 0)
    at zero l = refl
    at (suc zero) l = refl
    at (suc (suc zero)) l = refl
    at (suc (suc (suc i))) l = absurd (omega arith)

pub three : {x y z x' y' z' : ℤ} → x ≡ x' → y ≡ y' → z ≡ z' → x ∷ y ∷ z ∷ [] ≡ x' ∷ y' ∷ z' ∷ []
three a b c = rw (a, b, c)

length_points : (f : ℕ → ℕ → ℤ) (k : ℕ) → length (point_rows f k) ≡ k * 3
unfolding point_rows
length_points f k = length_gather (λ v. f 0 v ∷ f 1 v ∷ f 2 v ∷ []) 3 (λ i. refl) k

-- ---- the first k vertices of the next level, one after the other

pub record Refreshed (M : Mesh) (base : ℕ) (set : ℕ → Bool) (ps₀ : List ℤ) (k : ℕ) (ps : List ℤ) : Type 0 where
  pub points : ps ≡ points_up_to M base set ps₀ k

pub refreshed_none : {M : Mesh} {base : ℕ} {set : ℕ → Bool} {ps : List ℤ} → Refreshed M base set ps 0 ps
unfolding points_up_to point_rows
refreshed_none {M} {base} {set} {ps} = record { points = sym (put_nothing ps (M.count * 3)) }

module _ {n : ℕ} {t : Lent} {ps₀ : List ℤ} (L : Levels n t ps₀) {base : ℕ} {set : ℕ → Bool} {k : ℕ} {ps : List ℤ}
    (d : Refreshed (rows n t) base set ps₀ k ps) (most : k ≤ n + edges (rows n t)) where
  abbrev M : Mesh
  M = rows n t

  fits : n * 3 + length (point_rows (renewed M base set ps₀) k) ≤ length ps₀
  fits = let e = length_points (renewed M base set ps₀) k in let r = L.points in omega arith

  pub refreshed_long : length ps ≡ length ps₀
  unfolding points_up_to rows
  refreshed_long = ap length d.points ∙ length_put ps₀ (n * 3) (point_rows (renewed M base set ps₀) k) fits

  point_before : (axis v : ℕ) → axis < 3 → v < n → coordinate_at ps axis v ≡ coordinate_at ps₀ axis v
  unfolding points_up_to coordinate_at rows
  point_before axis v a l =
      ap (λ (w : List ℤ). get_or w (v * 3 + axis) (pos 0)) d.points
      ∙ put_before ps₀ (n * 3) (point_rows (renewed M base set ps₀) k) fits (pos 0) (v * 3 + axis) (omega arith)

  point_behind : (axis x : ℕ) → k ≤ x → coordinate_at ps axis (n + x) ≡ coordinate_at ps₀ axis (n + x)
  unfolding points_up_to coordinate_at rows
  point_behind axis x l =
      let e = length_points (renewed M base set ps₀) k in
      ap (λ (w : List ℤ). get_or w ((n + x) * 3 + axis) (pos 0)) d.points
      ∙ put_behind ps₀ (n * 3) (point_rows (renewed M base set ps₀) k) fits (pos 0) ((n + x) * 3 + axis) (omega arith)

  -- the level below is as it was
  pub levels_kept : Levels n t ps
  levels_kept =
      let l = refreshed_long in
      let r = L.points in
      let g = L.near.points in
      record {
        ready = L.ready;
        near = record { points = omega arith; near = λ v h axis i. subst InRange (sym (point_before axis v i h)) (L.near.near v h axis i) };
        points = omega arith;
      }

  next_kept : (axis x : ℕ) → axis < 3 → x < n + edges M → next_point M ps axis x ≡ next_point M ps₀ axis x
  unfolding next_point rows loop level refine
  next_kept axis x a h =
      by_mask_same (loop M) (loop_grounded M L.ready.sound) 0 x h (coordinate_at ps axis) (coordinate_at ps₀ axis) (λ v l. point_before axis v a l)

  module _ (settled : Settled (rows n t) base set) (less : k < n + edges (rows n t)) where
    -- what vertex k gets
    abbrev row : ℕ → List ℤ
    row x = renewed M base set ps₀ 0 x ∷ renewed M base set ps₀ 1 x ∷ renewed M base set ps₀ 2 x ∷ []

    -- one coordinate, by its mask or as it was
    abbrev given : Bool → ℕ → ℤ
    given b axis = cond b (next_point M ps₀ axis k) (coordinate_at ps₀ axis (n + k))

    row_is : points_with M base set ps k ≡ put ps ((n + k) * 3) (row k)
    unfolding points_with point_set renewed rows
    row_is = rw (settled.at k less) (go (touched_next M (from base set) k))
      where
        go : (b : Bool) → cond b (put ps ((n + k) * 3) (next_point M ps 0 k ∷ next_point M ps 1 k ∷ next_point M ps 2 k ∷ [])) ps
            ≡ put ps ((n + k) * 3) (given b 0 ∷ given b 1 ∷ given b 2 ∷ [])
        go true = ap (put ps ((n + k) * 3)) (three (next_kept 0 k (omega arith) less) (next_kept 1 k (omega arith) less) (next_kept 2 k (omega arith) less))
        go false =
            held_same ps (n + k) (let l = refreshed_long in let r = L.points in omega arith)
            ∙ ap (put ps ((n + k) * 3)) (three (point_behind 0 k (omega arith)) (point_behind 1 k (omega arith)) (point_behind 2 k (omega arith)))

    -- one more
    pub refreshed_more : {now : List ℤ} → now ≡ points_with M base set ps k → Refreshed M base set ps₀ (k + 1) now
    unfolding points_up_to point_rows rows
    refreshed_more p =
        let e = length_gather row 3 (λ i. refl) k in
        let r = L.points in
        record {
          points = p ∙ row_is ∙ ap (λ (w : List ℤ). put w ((n + k) * 3) (row k)) d.points
              ∙ gather_step row ps₀ (n * 3) k ((n + k) * 3) (omega arith) (omega arith);
        }

-- ---- vertices that are not marked, passed over

module _ {n : ℕ} {t : Lent} {ps₀ : List ℤ} (L : Levels n t ps₀) {base : ℕ} {set : ℕ → Bool} (settled : Settled (rows n t) base set) where
  pub refreshed_skip : (j : ℕ) {k : ℕ} {ps : List ℤ} → Refreshed (rows n t) base set ps₀ k ps → k + j ≤ n + edges (rows n t) → NoneFrom set (base + n + k) j
      → Refreshed (rows n t) base set ps₀ (k + j) ps
  unfolding rows
  refreshed_skip zero {k} d h u = rw (add-zero k) d
  refreshed_skip (suc j) {k} {ps} d h u =
      let e : k + j + 1 ≡ k + suc j = omega arith in
      let f : base + n + k + j ≡ base + n + (k + j) = omega arith in
      let w = refreshed_skip j d (omega arith) (record { none = λ i l. u.none i (omega arith) }) in
      let z : set (base + n + (k + j)) ≡ false = ap set (sym f) ∙ u.none j (omega arith) in
      rw (← e) (refreshed_more L w (omega arith) settled (omega arith) (points_no (rows n t) base set ps (k + j) false (sym z) refl))
