-- Levels refreshed one after the other: what stands in the map and in the positions once levels 1 to k are done, and what the next level asks. Assumes nothing.
use Prim.Native.Nat.{ℕ, zero, suc, ◌+◌, ◌-◌, ◌*◌, ◌≤◌, ◌<◌}
use mathlib.Core.Path.{◌≡◌, refl, sym, ap, ap₂, subst, ◌∙◌}
use mathlib.Core.Bool.{Bool, true, false, cond}
use mathlib.Core.List.{List}
use mathlib.Core.Logic.{⊎_elim}
use native.Mathlib.Nat.{zero-add}
use native.Mathlib.Numerals.{add-one}
use native.Mathlib.Omega.{arith}
use lib.IntN.{ℤ, pos, sub_ℕ}
use lib.ListN.{length, take, drop, length-drop}
use lib.Seq.{get_or-drop}
use borrow.Rule.Slice.PartMut.{put_mid}
use Rattle.mesh.specs.Limits.{most_units, most_vertices, stack_bound}
use Rattle.mesh.specs.Search.{sum}
use Rattle.mesh.specs.Mesh.{Mesh, Sound, edges, faces}
use Rattle.mesh.proofs.Faces.{three_faces}
use Rattle.mesh.proofs.Lists.{lt_split, climbs, sum_bounded}
use Rattle.steps.specs.Mask.{by_mask, touched, refreshed}
use Rattle.steps.specs.Sizes.{Sizes, sizes_of, closed_sizes}
use Rattle.steps.proofs.Lifted.{near_both, both_near}
use Rattle.steps.proofs.Hull.{mean_within}
use Rattle.steps.proofs.Refresh.{by_mask_same}
use Rattle.loop_step.specs.Refine.{refine, level}
use Rattle.loop_step.specs.Loop.{loop_mask, loop, loop_sizes}
use Rattle.loop_step.proofs.LoopMeans.{loop_mean}
use Rattle.loop_step.proofs.Levels.{level_sound, loop_grounded}
use Rattle.loop_step.proofs.Refined.{refine_count}
use Rattle.loop_step.proofs.RefinedFaces.{refine_sizes}
use Rattle.units.specs.Coordinate.{InRange}
use Rattle.rings.specs.Table.{Lent, lent, put, gather, ring_of, rows, coordinate_at, point_rows}
use Rattle.rings.proofs.Rows.{rows_ring}
use Rattle.rings.proofs.Tables.{put_nothing, gather_same}
use Rattle.rings.proofs.LevelRows as L
use Rattle.stack_judge.specs.declared.level.Level.{Level}
use Rattle.stack_judge.specs.Stack.{level_start, stack_count}
use Rattle.stack_judge.specs.LevelAt.{level_at, above_level, SmallLevel}
use Rattle.stack_judge.proofs.Sizes.{level_count_lem, start_none, sized_ground}
use Rattle.move_map.specs.Map.{marked}
use Rattle.loop_points.specs.Level.{Levels, next_point}
use Rattle.move_touched.specs.NextLevel.{from, touched_next, renewed, marks_up_to, points_up_to, InMap, NextRings, NextUnmarked}
use Rattle.move_refresh.specs.Stack.{StackReady, MapReady, TouchedMarked, refreshed_at, refreshed_positions}
use Rattle.stack_refine.proofs.StackLevels.{start_is, levels_room, ring_part, point_part}
use Rattle.move_touched.proofs.Touched.{next_same}
use Rattle.move_touched.proofs.Renewed.{marks_before, marks_at_lem, marks_behind, three}
use Rattle.move_refresh.proofs.RefreshedPoints as P

-- a point of the next level is in range where those of this one are
mean_near : (N : Mesh) → Sound N → (x : ℕ) → x < N.count + edges N → (at : ℕ → ℤ) → ((v : ℕ) → v < N.count → InRange (at v)) → InRange (by_mask (loop_mask N x) at)
unfolding loop level refine
mean_near N T x h at near =
    let w = mean_within (sub_ℕ 0 most_units) (pos most_units) N.count at
    (λ v g. let c = near_both most_units (at v) (near v g) in record { low = c.0; high = c.1 })
    (loop_mask N x) (loop_mean N T x) (loop_grounded N T 0 x h) in
    both_near most_units (by_mask (loop_mask N x) at) w.low w.high

-- levels 1 to k are refreshed, and `below` is level k
pub record Raised (n : ℕ) (t : Lent) (ps₀ : List ℤ) (map₀ : List ℕ) (k : ℕ) (below : Level) (map : List ℕ) (ps : List ℤ) : Type 0 where
  pub start : below.start ≡ sum (λ j. (level (rows n t) j).count) k
  pub vertices : below.vertices ≡ (level (rows n t) k).count
  pub sides : below.edges ≡ edges (level (rows n t) k)
  pub triangles : below.faces ≡ faces (level (rows n t) k)
  pub long : length map ≡ length map₀
  pub at : (j x : ℕ) → j ≤ k → x < (level (rows n t) j).count → marked map (sum (λ i. (level (rows n t) i).count) j + x) ≡ touched (loop (rows n t)) (marked map₀) j x
  pub behind : (i : ℕ) → sum (λ j. (level (rows n t) j).count) (suc k) ≤ i → marked map i ≡ marked map₀ i
  pub points : ps ≡ refreshed_positions n t (marked map₀) ps₀ k

-- a level begins in the tables
pub record Begins (t : Lent) (ps : List ℤ) (l : Level) : Type 0 where
  pub small : l.start ≤ stack_bound
  pub valences : l.start ≤ length t.valences
  pub rings : l.start * 32 ≤ length t.rings
  pub points : l.start * 3 ≤ length ps

pub raised_none : (n e : ℕ) (t : Lent) (ps : List ℤ) (map : List ℕ) → e ≡ edges (rows n t)
    → (below : Level) → below ≡ level_at (closed_sizes n e) 0 → Raised n t ps map 0 below map ps
unfolding level rows refreshed_positions touched
raised_none n e t ps map h below g =
    let z = sized_ground (rows n t) g h in
    record {
      start = z.start ∙ start_none (sizes_of n (rows n t));
      vertices = z.vertices;
      sides = z.edges;
      triangles = z.faces;
      long = refl;
      at = at;
      behind = λ i l. refl;
      points = sym (put_nothing ps (n * 3));
    }
  where
    at : (j x : ℕ) → j ≤ 0 → x < (level (rows n t) j).count → marked map (sum (λ i. (level (rows n t) i).count) j + x) ≡ touched (loop (rows n t)) (marked map) j x
    at zero x h g = ap (marked map) (zero-add x)
    at (suc j) x h g = absurd (omega arith)

module _ {n e levels : ℕ} {t : Lent} {ps₀ : List ℤ} (R : StackReady n e levels t ps₀) where
  abbrev M : Mesh
  M = rows n t

  abbrev size : ℕ → ℕ
  size k = (level M k).count

  S : Sound M
  S = R.accepted.control.sound

  -- ---- sizes

  size_suc : (k : ℕ) → size (suc k) ≡ size k + edges (level M k)
  unfolding level
  size_suc k = refine_count (level M k) (level_sound M S k)

  sizes_suc : (k : ℕ) → sizes_of (size (suc k)) (level M (suc k)) ≡ loop_sizes (sizes_of (size k) (level M k))
  unfolding level
  sizes_suc k = refine_sizes (level M k) (level_sound M S k)

  size_most : (k : ℕ) → k ≤ levels → size k ≤ most_vertices
  unfolding rows
  size_most k l = rw (level_count_lem M S k) (R.accepted.fits k l)

  starts_climb : (j k : ℕ) → j ≤ k → sum size j ≤ sum size k
  starts_climb j k l = climbs (sum size) (λ i. omega arith) j k l

  start_of : (k : ℕ) → level_start (sizes_of n M) k ≡ sum size k
  start_of = start_is n levels t ps₀ R.accepted

  pub whole_is : stack_count (sizes_of n M) levels ≡ sum size (suc levels)
  unfolding stack_count
  whole_is = start_of (suc levels)

  whole_small : sum size (suc levels) ≤ 327675
  whole_small = let h = sum_bounded size most_vertices (suc levels) (λ i l. size_most i (omega arith)) in let l = R.accepted.high in omega arith

  -- a vertex of level j, in the stack
  in_stack : (j x : ℕ) → j ≤ levels → x < size j → sum size j + x < stack_count (sizes_of n M) levels
  in_stack j x h g = let c = levels_room n levels t ps₀ R.accepted j h in omega arith

  module _ (map₀ : List ℕ) where
    abbrev before : ℕ → Bool
    before = marked map₀

    abbrev hit : ℕ → ℕ → Bool
    hit = touched (loop M) before

    abbrev point : ℕ → ℕ → ℕ → ℤ
    point axis k x = refreshed_at n t before ps₀ axis k x

    abbrev row : ℕ → ℕ → List ℤ
    row = P.row n t before ps₀

    -- ---- every refreshed coordinate is in range

    in-range : (axis : ℕ) → axis < 3 → (k x : ℕ) → k ≤ levels → x < size k → InRange (point axis k x)
    unfolding refreshed_at refreshed loop level
    in-range axis b zero x l h = R.near x (let i = in_stack 0 x (omega arith) h in omega arith) axis b
    in-range axis b (suc k) x l h =
        go (touched (loop M) before (suc k) x)
        (mean_near (level M k) (level_sound M S k) x (rw (← size_suc k) h) (point axis k) (λ v g. in-range axis b k v (omega arith) g))
        (R.near (level_start (sizes_of n M) (suc k) + x) (rw (start_of (suc k)) (in_stack (suc k) x l h)) axis b)
      where
        go : (o : Bool) → InRange (by_mask (loop_mask (level M k) x) (point axis k)) → InRange (coordinate_at ps₀ axis (level_start (sizes_of n M) (suc k) + x))
            → InRange (cond o (by_mask (loop_mask (level M k) x) (point axis k)) (coordinate_at ps₀ axis (level_start (sizes_of n M) (suc k) + x)))
        go true mean held = mean
        go false mean held = held

    room : (k : ℕ) → k ≤ levels → sum size (suc k) * 3 ≤ length ps₀
    room k l = let r = levels_room n levels t ps₀ R.accepted k l in let p = R.accepted.points in omega arith

    pub raised_length : {k : ℕ} {below : Level} {map : List ℕ} {ps : List ℤ} → Raised n t ps₀ map₀ k below map ps → k ≤ levels → length ps ≡ length ps₀
    raised_length {k} g h = ap length g.points ∙ P.positions_long n t before ps₀ k (room k h)

    pub raised_begins : {k : ℕ} {below : Level} {map : List ℕ} {ps : List ℤ} → Raised n t ps₀ map₀ k below map ps → k ≤ levels → Begins t ps below
    raised_begins {k} g h =
        let a = g.start in
        let c = starts_climb k (suc levels) (omega arith) in
        let w = whole_small in
        let v = whole_is in
        let e = raised_length g h in
        let x = R.accepted.room.valences in
        let y = R.accepted.room.rings in
        let z = R.accepted.points in
        record { small = omega arith; valences = omega arith; rings = omega arith; points = omega arith }

    -- ---- one level more

    module _ {k : ℕ} {below : Level} {map : List ℕ} {ps : List ℤ} (g : Raised n t ps₀ map₀ k below map ps) (l : k < levels) where
      abbrev base : ℕ
      base = below.start

      abbrev count : ℕ
      count = below.vertices

      abbrev f : ℕ
      f = below.edges

      raised_sizes : (base + (count + (count + f)) ≤ stack_count (sizes_of n M) levels) × (base + (count + (count + f)) ≤ 327675)
      raised_sizes =
          let a = g.start in
          let b = g.vertices in
          let c = g.sides in
          let d = size_suc k in
          let w = whole_small in
          let v = whole_is in
          let h = starts_climb (suc (suc k)) (suc levels) (omega arith) in
          (omega arith, omega arith)

      -- the numbers of the level are small
      pub raised_small : SmallLevel below
      raised_small =
          let s = raised_sizes in
          let h = three_faces (level M k) (level_sound M S k) in
          let c = g.sides in
          let d = g.triangles in
          record { start = omega arith; vertices = omega arith; edges = omega arith; faces = omega arith }

      abbrev part : List ℤ
      part = take (length ps - base * 3) (drop (base * 3) ps)

      starts : Begins t ps below
      starts = raised_begins g (omega arith)

      part_length : length part ≡ length ps - base * 3
      part_length = ap length (L.part_is ps (base * 3) starts.points) ∙ length-drop (base * 3) ps

      part_at : (axis v : ℕ) → coordinate_at part axis v ≡ coordinate_at ps axis (base + v)
      part_at axis v = ap (λ (o : List ℤ). coordinate_at o axis v) (L.part_is ps (base * 3) starts.points) ∙ point_part ps base axis v

      -- this level's points, and what the next level holds
      point_here : (axis : ℕ) → axis < 3 → (v : ℕ) → v < size k → coordinate_at part axis v ≡ point axis k v
      point_here axis b v h =
          part_at axis v ∙ ap₂ (λ (o : List ℤ) (i : ℕ). coordinate_at o axis (i + v)) g.points g.start
          ∙ P.position_at n t before ps₀ k (room k (omega arith)) axis b k v (omega arith) h

      point_next : (axis x : ℕ) → coordinate_at part axis (size k + x) ≡ coordinate_at ps₀ axis (level_start (sizes_of n M) (suc k) + x)
      unfolding coordinate_at
      point_next axis x =
          let a = g.start in
          let e : base + (size k + x) ≡ sum size (suc k) + x = omega arith in
          part_at axis (size k + x) ∙ ap₂ (λ (o : List ℤ) (i : ℕ). coordinate_at o axis i) g.points e
          ∙ P.position_behind n t before ps₀ k (room k (omega arith)) ((sum size (suc k) + x) * 3 + axis) (omega arith) ∙ ap (λ (i : ℕ). coordinate_at ps₀ axis (i + x)) (sym (start_of (suc k)))

      mark_here : (v : ℕ) → v < size k → from base (marked map) v ≡ hit k v
      unfolding from
      mark_here v h = ap (λ (i : ℕ). marked map (i + v)) g.start ∙ g.at k v (omega arith) h

      -- touched on the next level
      hit_next : (x : ℕ) → x < size (suc k) → touched_next (level M k) (from base (marked map)) x ≡ hit (suc k) x
      unfolding touched_next touched loop
      hit_next x h = next_same (level M k) (from base (marked map)) (level_sound M S k) (hit k) mark_here x (rw (← size_suc k) h)

      point_more : (axis : ℕ) → axis < 3 → (x : ℕ) → x < size (suc k) → renewed (level M k) base (marked map) part axis x ≡ point axis (suc k) x
      unfolding renewed next_point refreshed_at refreshed loop
      point_more axis b x h =
          rw (hit_next x h) (ap₂ (λ (y z : ℤ). cond (hit (suc k) x) y z)
          (by_mask_same (loop M) (loop_grounded M S) k x h (coordinate_at part axis) (point axis k) (λ v q. point_here axis b v q))
          (point_next axis x))

      -- ---- the parts that the next level is handed

      abbrev valences : List ℕ
      valences = take (length t.valences - base) (drop base t.valences)

      abbrev rings : List ℕ
      rings = take (length t.rings - base * 32) (drop (base * 32) t.rings)

      valences_are : valences ≡ drop base t.valences
      valences_are = L.part_is t.valences base starts.valences

      rings_are : rings ≡ drop (base * 32) t.rings
      rings_are = L.part_is t.rings (base * 32) starts.rings

      ring_here : (x : ℕ) → ring_of (lent valences rings) x ≡ ring_of t (base + x)
      ring_here x = ap₂ (λ (a b : List ℕ). ring_of (lent a b) x) valences_are rings_are ∙ ring_part t base x

      mesh_is : rows count (lent valences rings) ≡ level M k
      mesh_is =
          let b : level_start (sizes_of n M) k ≡ base = start_of k ∙ sym g.start in
          rw (valences_are, rings_are, g.vertices) (subst (λ (i : ℕ). rows (size k) (lent (drop i t.valences) (drop (i * 32) t.rings)) ≡ level M k) b (R.refined k (omega arith)))

      edges_are : edges (rows count (lent valences rings)) ≡ f
      edges_are = ap edges mesh_is ∙ sym g.sides

      next_ring : (x : ℕ) → x < size (suc k) → ring_of (lent valences rings) (count + x) ≡ (refine (level M k)).ring x
      unfolding level
      next_ring x h =
          let a = g.start in
          let b = g.vertices in
          let i : ℕ = level_start (sizes_of n M) (suc k) in
          let c = start_of (suc k) in
          let e : base + (count + x) ≡ i + x = omega arith in
          ring_here (count + x) ∙ ap (ring_of t) e ∙ sym (ring_part t i x) ∙ sym (rows_ring (size (suc k)) (lent (drop i t.valences) (drop (i * 32) t.rings)) x h)
          ∙ ap (λ (N : Mesh). N.ring x) (R.refined (suc k) l)

      next_unmarked : MapReady n levels t map₀ → (x : ℕ) → x < size (suc k) → marked map (base + count + x) ≡ false
      unfolding level rows
      next_unmarked W x h =
          let a = g.start in
          let b = g.vertices in
          let c : sum size 1 ≤ sum size (suc k) = starts_climb 1 (suc k) (omega arith) in
          let d = in_stack (suc k) x l h in
          g.behind (base + count + x) (omega arith) ∙ W.unmarked (base + count + x) (omega arith) (omega arith)

      levels_here : Levels count (lent valences rings) part
      levels_here =
          let q = edges_are in
          let s = raised_sizes in
          let a = g.start in
          let b = g.vertices in
          let c = g.sides in
          let d = size_suc k in
          let m = size_most (suc k) l in
          let v = ap length valences_are ∙ length-drop base t.valences in
          let r = ap length rings_are ∙ length-drop (base * 32) t.rings in
          let p = part_length in
          let x = R.accepted.room.valences in
          let y = R.accepted.room.rings in
          let z = R.accepted.points in
          let w = raised_length g (omega arith) in
          record {
            ready = record {
              room = record { valences = omega arith; rings = omega arith };
              most = λ u h. rw (valences_are, get_or-drop base t.valences u 0) (R.most (base + u) (omega arith));
              sound = subst Sound (sym mesh_is) (level_sound M S k);
              fits = omega arith;
            };
            near = record {
              points = omega arith;
              near = λ u h axis i. let j : u < size k = omega arith in subst InRange (sym (point_here axis i u j)) (in-range axis i k u (omega arith) j);
            };
            points = omega arith;
          }

      -- what a refresh of the next level asks
      pub next_requires : MapReady n levels t map₀ → (next : Level) → next ≡ above_level below → (next.vertices ≡ count + edges (rows count (lent valences rings)))
          × (InMap (base + (count + (count + edges (rows count (lent valences rings))))) map
          × (Levels count (lent valences rings) part × (NextRings count (lent valences rings) × NextUnmarked (rows count (lent valences rings)) base (marked map))))
      unfolding rows above_level
      next_requires W next up =
          let u : next.vertices ≡ count + f = ap (λ (v : Level). v.vertices) up in
          let q = edges_are in
          let s = raised_sizes in
          let b = g.vertices in
          let c = g.sides in
          let d = size_suc k in
          let r = W.room in
          let m = g.long in (
            omega arith,
            (
              record { small = omega arith; room = omega arith },
              (
                levels_here,
                (
                  record { ring = λ x h. next_ring x (omega arith) ∙ ap (λ (N : Mesh). (refine N).ring x) (sym mesh_is) },
                  record { unmarked = λ x h. next_unmarked W x (omega arith) },
                ),
              ),
            ),
          )

      -- and what it leaves

      above_is : count + edges (rows count (lent valences rings)) ≡ size (suc k)
      above_is = let q = edges_are in let b = g.vertices in let c = g.sides in let d = size_suc k in omega arith

      rows_are : point_rows (renewed (level M k) base (marked map) part) (size (suc k)) ≡ gather (row k) (size (suc k))
      unfolding point_rows
      rows_are = gather_same _ (row k) (size (suc k)) (λ x h. three (point_more 0 (omega arith) x h) (point_more 1 (omega arith) x h) (point_more 2 (omega arith) x h))

      module _ (map' : List ℕ) (marks : marked map' ≡ marks_up_to (rows count (lent valences rings)) base (marked map) (count + edges (rows count (lent valences rings)))) where
        marks_are : (i : ℕ) → marked map' i ≡ marks_up_to (level M k) base (marked map) (size (suc k)) i
        marks_are i = ap (λ (s : ℕ → Bool). s i) (marks ∙ ap₂ (λ (N : Mesh) (j : ℕ). marks_up_to N base (marked map) j) mesh_is above_is)

        at_more : (j x : ℕ) → j ≤ suc k → x < size j → marked map' (sum size j + x) ≡ hit j x
        at_more j x h q =
            ⊎_elim
            (λ m.
            let a = g.start in
            let c = starts_climb (suc j) (suc k) (omega arith) in
            marks_are (sum size j + x) ∙ marks_before (level M k) base (marked map) (size (suc k)) (sum size j + x) (omega arith) ∙ g.at j x (omega arith) q)
            (λ m.
            let e : j ≡ suc k = omega arith in
            let a = g.start in
            let w : sum size (suc k) + x ≡ base + size k + x = omega arith in
            let q' : x < size (suc k) = subst (λ (i : ℕ). x < size i) e q in
            subst (λ (i : ℕ). marked map' (sum size i + x) ≡ hit i x) (sym e)
            (ap (marked map') w ∙ marks_are (base + size k + x) ∙ marks_at_lem (level M k) base (marked map) (size (suc k)) x q' ∙ hit_next x q'))
            (lt_split j (suc k))

        behind_more : (i : ℕ) → sum size (suc (suc k)) ≤ i → marked map' i ≡ before i
        behind_more i h = let a = g.start in marks_are i ∙ marks_behind (level M k) base (marked map) (size (suc k)) i (omega arith) ∙ g.behind i (omega arith)

        module _ (after : List ℤ) (points : after ≡ points_up_to (rows count (lent valences rings)) base (marked map) part (count + edges (rows count (lent valences rings)))) where
          part_is_new : after ≡ put part (count * 3) (gather (row k) (size (suc k)))
          unfolding points_up_to
          part_is_new =
              points ∙ ap₂ (λ (N : Mesh) (j : ℕ). points_up_to N base (marked map) part j) mesh_is above_is
              ∙ ap₂ (λ (i : ℕ) (b : List ℤ). put part (i * 3) b) (sym g.vertices) rows_are

          pub raised_more : length map' ≡ length map → (ps' : List ℤ) → ps' ≡ put_mid (base * 3) (length ps - base * 3) ps after
              → (next : Level) → next ≡ above_level below → Raised n t ps₀ map₀ (k + 1) next map' ps'
          unfolding above_level
          raised_more long ps' back next up =
              let a = g.start in
              let b = g.vertices in
              let c = g.sides in
              let d = g.triangles in
              let v : size (suc k) ≡ size k + edges (level M k) = size_suc k in
              let e : edges (level M (suc k)) ≡ 2 * edges (level M k) + 3 * faces (level M k) = ap (λ (s : Sizes). s.edges) (sizes_suc k) in
              let h : faces (level M (suc k)) ≡ 4 * faces (level M k) = ap (λ (s : Sizes). s.faces) (sizes_suc k) in
              rw (up, add-one k) (record {
                start = omega arith;
                vertices = omega arith;
                sides = omega arith;
                triangles = omega arith;
                long = long ∙ g.long;
                at = at_more;
                behind = behind_more;
                points = back
                    ∙ L.stacked_more 3 row (λ j x. refl) size ps₀ k (room k (omega arith)) (room (suc k) l) ps
                    (g.points ∙ P.positions_are n t before ps₀ k (room k (omega arith))) (base * 3) (count * 3)
                    (ap (λ (i : ℕ). i * 3) a) (ap (λ (i : ℕ). i * 3) b) after part_is_new
                    ∙ sym (P.positions_are n t before ps₀ (suc k) (room (suc k) l));
              })

  -- ---- all levels done

  pub raised_end : (map₀ : List ℕ) {k : ℕ} {below : Level} {map : List ℕ} {ps : List ℤ} → Raised n t ps₀ map₀ k below map ps → k ≡ levels
      → TouchedMarked n levels t (marked map₀) (marked map) × (ps ≡ refreshed_positions n t (marked map₀) ps₀ levels)
  raised_end map₀ {map = map} {ps = ps} g q =
      let w = whole_is in
      let d : Raised n t ps₀ map₀ levels _ map ps = rw q at g in (
        record {
          at = λ j x h i. ap (λ (s : ℕ). marked map (s + x)) (start_of j) ∙ d.at j x h i;
          behind = λ j h. d.behind j (omega arith);
        },
        d.points,
      )
