-- The sweep over the levels of a stack: a level is held against the one below it, which stands as refinement gives it, and its vertices go on where those of
-- the level below end. Assumes nothing.
use Prim.Native.Nat.{ℕ, suc, ◌+◌, ◌-◌, ◌*◌, ◌≤◌, ◌<◌}
use mathlib.Core.Path.{◌≡◌, sym, ap, ◌∙◌}
use mathlib.Core.List.{List}
use mathlib.Core.Logic.{⊎_elim}
use native.Mathlib.Nat.{zero-add}
use native.Mathlib.Numerals.{add-one}
use native.Mathlib.Omega.{arith}
use lib.IntN.{ℤ}
use lib.ListN.{length, take, drop}
use Rattle.mesh.specs.Limits.{most_vertices, edge_bound}
use Rattle.mesh.specs.Search.{first}
use Rattle.mesh.specs.Mesh.{Mesh, edges}
use Rattle.mesh.proofs.Lists.{lt_split}
use Rattle.mesh.proofs.First.{Clear, first_at, first_is, first_end}
use Rattle.steps.specs.Sizes.{Sizes, sizes_of, closed_sizes}
use Rattle.loop_step.specs.Refine.{refine, level}
use Rattle.rings.specs.Table.{Lent, lent, rows}
use Rattle.rings.proofs.LevelRows.{part_is}
use Rattle.stack_judge.specs.declared.level.Level.{Level}
use Rattle.stack_judge.specs.Stack.{level_start, stack_count}
use Rattle.stack_judge.specs.LevelAt.{level_at, above_level, SmallLevel}
use Rattle.stack_judge.specs.Accepts.{AcceptsStack}
use Rattle.stack_judge.proofs.Sizes.{few_of, Sized, sized_ground, sized_more, sized_small, start_none, start_suc}
use Rattle.stack_judge.proofs.StackVertices.{starts_climb, vertex_in}
use Rattle.loop_points.specs.Level.{Ready}
use Rattle.stack_strange.specs.Expected.{other_than, strange_next, whole, strange}
use Rattle.stack_strange.proofs.NextNumbers.{clear_first}
use Rattle.stack_as_refined.proofs.StackRows.{other_part, control_clear, strange_is}
use Rattle.stack_as_refined.proofs.StackAsRefined.{size, begin, valences_from, rings_from, positions_from, AsRefined, level_as_refined, part_edges, part_ready, part_points}

module _ (n levels : ℕ) (t : Lent) (ps : List ℤ) (a : AcceptsStack n levels t ps) where
  abbrev M : Mesh
  M = rows n t

  -- ---- level k stands as refinement gives it

  module _ (k : ℕ) (l : k < levels) (o : AsRefined n t ps k) where
    -- vertex x of the next level, in the part and in the stack
    pub part_strange : (x : ℕ) → x < size n t (suc k) → strange_next (size n t k) (lent (valences_from n t k) (rings_from n t k)) (positions_from n t k ps) x ≡ strange n levels t ps (begin n t (suc k) + x)
    unfolding strange_next level
    part_strange x h =
        let j : begin n t k + (size n t k + x) ≡ begin n t (suc k) + x = omega (arith, start_suc (sizes_of n M) k) in
        ap (λ (N : Mesh). other_than ((refine N).ring x) (lent (valences_from n t k) (rings_from n t k)) (positions_from n t k ps) (size n t k + x)) o.mesh
        ∙ other_part ((refine (level M k)).ring x) t ps (begin n t k) (size n t k + x)
        ∙ ap (other_than ((refine (level M k)).ring x) t ps) j
        ∙ sym (strange_is n levels t ps k x l h)

    -- ---- a search that goes on in the next level

    module _ (all : Clear (strange n levels t ps) (begin n t (suc k))) (x : ℕ) (q : x ≡ first (strange_next (size n t k) (lent (valences_from n t k) (rings_from n t k)) (positions_from n t k ps)) (size n t (suc k))) where
      so_far : (y : ℕ) → y ≤ x → y ≤ size n t (suc k) → Clear (strange n levels t ps) (begin n t (suc k) + y)
      so_far y g h = record {
        below = λ j m.
            ⊎_elim
            (λ s. all.below j s.1)
            (λ s.
            let i : ℕ = j - begin n t (suc k) in
            let f : begin n t (suc k) + i ≡ j = omega arith in
            ap (strange n levels t ps) (sym f) ∙ sym (part_strange i (omega arith)) ∙ (clear_first _ _ q).below i (omega arith))
            (lt_split j (begin n t (suc k)));
      }

      pub found_above : x < size n t (suc k) → begin n t (suc k) + x ≡ first (strange n levels t ps) (whole n levels t ps)
      unfolding whole
      found_above h =
          first_is (so_far x (omega arith) (omega arith)) (vertex_in (sizes_of n M) levels (suc k) x l h)
          (sym (part_strange x h) ∙ ap (strange_next (size n t k) (lent (valences_from n t k) (rings_from n t k)) (positions_from n t k ps)) q ∙ first_at (strange_next (size n t k) (lent (valences_from n t k) (rings_from n t k)) (positions_from n t k ps)) (size n t (suc k)) (omega arith))

      pub none_above : size n t (suc k) ≤ x → Clear (strange n levels t ps) (begin n t (suc (suc k)))
      none_above h = rw (start_suc (sizes_of n M) (suc k)) (so_far (size n t (suc k)) h (omega arith))

-- ---- the loop: `below` is level k

pub record Reached (n levels : ℕ) (t : Lent) (ps : List ℤ) (below : Level) (k : ℕ) : Type 0 where
  pub within : k ≤ levels
  pub sized : Sized (sizes_of n (rows n t)) k below
  pub clear : Clear (strange n levels t ps) (below.start + below.vertices)
  -- the level is in the tables, and no count is large
  pub valences : below.start + below.vertices ≤ length t.valences
  pub rings : (below.start + below.vertices) * 32 ≤ length t.rings
  pub points : (below.start + below.vertices) * 3 ≤ length ps
  pub small : SmallLevel below

module _ (n levels : ℕ) (t : Lent) (ps : List ℤ) (a : AcceptsStack n levels t ps) where
  abbrev sizes : Sizes
  sizes = sizes_of n (rows n t)

  -- no count is large
  edges_few : edges (rows n t) ≤ most_vertices
  edges_few = let f = a.fits 1 a.low in omega arith

  pub edges_told : (e : ℕ) → e ≡ edges (rows n t) → e ≤ edge_bound
  edges_told e q = omega (arith, edges_few)

  module _ {below : Level} {k : ℕ} (w : k ≤ levels) (z : Sized sizes k below) where
    level_ends : below.start + below.vertices ≡ level_start sizes (suc k)
    level_ends = omega (arith, z.start, z.vertices, start_suc sizes k)

    level_within : below.start + below.vertices ≤ stack_count sizes levels
    unfolding stack_count
    level_within = omega (arith, level_ends, starts_climb sizes (suc k) (suc levels) (omega arith))

    reached : Clear (strange n levels t ps) (below.start + below.vertices) → Reached n levels t ps below k
    reached c =
        let h = level_within in
        let u = a.room.valences in
        let v = a.room.rings in
        let p = a.points in
        let high = a.high in
        let f = edges_few in
        record {
          within = w;
          sized = z;
          clear = c;
          valences = omega arith;
          rings = omega arith;
          points = omega arith;
          small = sized_small (few_of n (rows n t) a.control.high (omega arith)) z (omega arith);
        }

  pub reached_none : (e : ℕ) → e ≡ edges (rows n t) → (below : Level) → below ≡ level_at (closed_sizes n e) 0 → Reached n levels t ps below 0
  reached_none e q below g =
      let z = sized_ground (rows n t) g q in
      reached (omega arith) z (rw (z.start, z.vertices, start_none sizes, zero-add n) (control_clear n levels t ps))

  module _ {below : Level} {k : ℕ} (z : Reached n levels t ps below k) where
    abbrev base : ℕ
    base = below.start

    abbrev m : ℕ
    m = below.vertices

    ends : base + m ≡ level_start sizes (suc k)
    ends = level_ends z.within z.sized

    -- ---- the end

    pub reached_end : levels ≤ k → base + m ≡ first (strange n levels t ps) (whole n levels t ps)
    unfolding whole stack_count
    reached_end h =
        let w = z.within in
        let q : k ≡ levels = omega arith in
        let b : base + m ≡ level_start sizes (suc levels) = ends ∙ ap (λ (i : ℕ). level_start sizes (suc i)) q in
        first_end z.clear (omega arith) (omega arith)

    -- ---- one level further, in the parts that begin where level k does

    module _ (l : k < levels) (next : Level) (up : next ≡ above_level below) where
      next_sized : Sized sizes (suc k) next
      next_sized = rw (add-one k) at (sized_more z.sized up)

      stands : AsRefined n t ps k
      stands = level_as_refined n levels t ps a k (omega arith) (rw ends at z.clear)

      -- the parts that are lent, as they come
      abbrev part : Lent
      part = lent (take (length t.valences - base) (drop base t.valences)) (take (length t.rings - base * 32) (drop (base * 32) t.rings))

      abbrev part_ps : List ℤ
      part_ps = take (length ps - base * 3) (drop (base * 3) ps)

      -- the next level begins where this one ends, and its numbers are small too
      pub reached_next : (next.start ≡ base + m) × (next.vertices ≡ m + below.edges)
      unfolding above_level
      reached_next = (ap (λ (v : Level). v.start) up, ap (λ (v : Level). v.vertices) up)

      pub reached_asks : Ready m part × ((next.vertices ≡ m + edges (rows m part)) × ((m + (m + edges (rows m part))) * 3 ≤ length part_ps))
      reached_asks =
          let h = z.valences in
          let u = z.rings in
          let p = z.points in
          rw (part_is t.valences base (omega arith), part_is t.rings (base * 32) (omega arith), part_is ps (base * 3) (omega arith), reached_next.1, z.sized.vertices, z.sized.edges, z.sized.start)
          (part_ready n levels t ps a k l stands, (ap (λ (d : ℕ). size n t k + d) (sym (part_edges n levels t ps a k l stands)), part_points n levels t ps a k l stands))

      module _ (x : ℕ) (q : x ≡ first (strange_next m part part_ps) (m + edges (rows m part))) where
        searched : x ≡ first (strange_next (size n t k) (lent (valences_from n t k) (rings_from n t k)) (positions_from n t k ps)) (size n t (suc k))
        searched =
            let h = z.valences in
            let u = z.rings in
            let p = z.points in
            rw (← part_edges n levels t ps a k l stands)
            (rw (part_is t.valences base (omega arith), part_is t.rings (base * 32) (omega arith), part_is ps (base * 3) (omega arith), z.sized.vertices, z.sized.start) at q)

        pub reached_strange : x < next.vertices → next.start + x ≡ first (strange n levels t ps) (whole n levels t ps)
        reached_strange h = rw next_sized.start (found_above n levels t ps a k l stands (rw ends at z.clear) x searched (rw next_sized.vertices at h))

        pub reached_more : next.vertices ≤ x → Reached n levels t ps next (k + 1)
        reached_more h =
            reached (omega arith) (sized_more z.sized up)
            (rw (next_sized.start, next_sized.vertices, ← start_suc sizes (suc k))
            (none_above n levels t ps a k l stands (rw ends at z.clear) x searched (rw next_sized.vertices at h)))
