-- The loop of `write_levels` over the levels: k of them are written, and `below` is level k. Assumes nothing.
use Prim.Native.Nat.{ℕ, suc, ◌+◌, ◌-◌, ◌*◌, ◌≤◌, ◌<◌}
use mathlib.Core.Path.{◌≡◌, sym, ap, ap₂, ◌∙◌}
use mathlib.Core.List.{List}
use native.Mathlib.Omega.{arith}
use native.Mathlib.Numerals.{add-one}
use lib.IntN.{ℤ}
use lib.ListN.{length, take, drop}
use borrow.Rule.Slice.PartMut.{put_mid}
use Rattle.mesh.specs.Limits.{edge_bound}
use Rattle.mesh.specs.Search.{sum}
use Rattle.mesh.specs.Mesh.{edges, faces}
use Rattle.steps.specs.Mask.{refined}
use Rattle.steps.specs.Sizes.{sizes_of, closed_sizes}
use Rattle.loop_step.specs.Refine.{level}
use Rattle.loop_step.specs.Loop.{loop}
use Rattle.rings.specs.Table.{Lent, lent, put, rows, valence_rows, ring_rows, coordinate_at, point_rows}
use Rattle.rings.proofs.Tables.{put_nothing}
use Rattle.rings.proofs.LevelRows.{part_is}
use Rattle.stack_judge.specs.declared.level.Level.{Level}
use Rattle.stack_judge.specs.LevelAt.{level_at, above_level, size_bound, SmallLevel}
use Rattle.stack_judge.specs.Accepts.{AcceptsStack}
use Rattle.stack_judge.proofs.Sizes.{few_of, Sized, sized_ground, sized_more, sized_small, level_count_lem, level_edges_lem, level_faces}
use Rattle.loop_points.specs.Level.{Levels, valences_up_to, rings_up_to, positions_up_to}
use Rattle.stack_refine.specs.Refinement.{stacked_valences, stacked_rings, stacked_positions}
use Rattle.stack_refine.proofs.StackLevels as T
use Rattle.stack_refine.proofs.LevelWritten.{part_levels, valences_written, rings_written, positions_written}
use Rattle.rings.specs.Refusal.{counted}

pub record Running (n levels : ℕ) (t : Lent) (ps : List ℤ) (k : ℕ) (below : Level) (t' : Lent) (ps' : List ℤ) : Type 0 where
  pub within : k ≤ levels
  pub small : edges (rows n t) ≤ edge_bound
  pub sized : Sized (sizes_of n (rows n t)) k below
  pub valences : t'.valences ≡ stacked_valences n k t
  pub rings : t'.rings ≡ stacked_rings n k t
  pub positions : ps' ≡ stacked_positions n k t ps

pub running_none : (n levels : ℕ) (t : Lent) (ps : List ℤ) (e : ℕ) → e ≡ edges (rows n t) → e ≤ edge_bound
    → (below : Level) → below ≡ level_at (closed_sizes n e) 0 → Running n levels t ps 0 below t ps
unfolding stacked_valences stacked_rings stacked_positions
running_none n levels t ps e q s below g =
    record {
      within = omega arith;
      small = omega arith;
      sized = sized_ground (rows n t) g q;
      valences = sym (put_nothing t.valences n);
      rings = sym (put_nothing t.rings (n * 32));
      positions = sym (put_nothing ps (n * 3));
    }

-- a level lies within the tables, and its numbers are small
pub record Bounds (below : Level) (t' : Lent) (ps' : List ℤ) : Type 0 where
  pub vertices : below.start + below.vertices ≤ length t'.valences
  pub places : below.start * 32 ≤ length t'.rings
  pub numbers : below.start * 3 ≤ length ps'
  pub low_start : below.start ≤ size_bound
  pub small : SmallLevel below

module _ {n levels : ℕ} {t : Lent} {ps : List ℤ} (a : AcceptsStack n levels t ps)
    {k : ℕ} {below : Level} {t' : Lent} {ps' : List ℤ} (r : Running n levels t ps k below t' ps') where
  abbrev base : ℕ
  base = below.start

  abbrev count : ℕ
  count = below.vertices

  at_start : base ≡ sum (λ j. (level (rows n t) j).count) k
  at_start = r.sized.start ∙ T.start_is n levels t ps a k

  at_size : count ≡ (level (rows n t) k).count
  unfolding rows
  at_size = r.sized.vertices ∙ sym (level_count_lem (rows n t) a.control.sound k)

  -- the tables have the lengths that they had
  pub running_lengths : (length t'.valences ≡ length t.valences) × ((length t'.rings ≡ length t.rings) × (length ps' ≡ length ps))
  running_lengths = (
    ap length r.valences ∙ T.valences_length n levels t ps a k r.within,
    (ap length r.rings ∙ T.rings_length n levels t ps a k r.within, ap length r.positions ∙ T.positions_length n levels t ps a k r.within),
  )

  -- the level lies within the tables, and the numbers are small
  pub running_bounds : Bounds below t' ps'
  running_bounds =
      let f = T.levels_room n levels t ps a k r.within in
      let g = running_lengths in
      let s = at_start in
      let c = at_size in
      let v = a.room.valences in
      let w = a.room.rings in
      let p = a.points in
      let l = r.within in
      let h = a.high in
      let q = sized_small (few_of n (rows n t) a.control.high r.small) r.sized (omega arith) in
      record { vertices = omega arith; places = omega arith; numbers = omega arith; low_start = q.start; small = q }

  -- the parts that are lent, as they come
  abbrev part : Lent
  part = lent (take (length t'.valences - base) (drop base t'.valences)) (take (length t'.rings - base * 32) (drop (base * 32) t'.rings))

  abbrev part_points : List ℤ
  part_points = take (length ps' - base * 3) (drop (base * 3) ps')

  part_valences_are : part.valences ≡ drop (sum (λ j. (level (rows n t) j).count) k) (stacked_valences n k t)
  part_valences_are = let h = running_bounds in part_is t'.valences base (omega arith) ∙ ap₂ drop at_start r.valences

  part_rings_are : part.rings ≡ drop (sum (λ j. (level (rows n t) j).count) k * 32) (stacked_rings n k t)
  part_rings_are = let h = running_bounds in part_is t'.rings (base * 32) (omega arith) ∙ ap₂ (λ (p : ℕ). drop (p * 32)) at_start r.rings

  part_points_are : part_points ≡ drop (sum (λ j. (level (rows n t) j).count) k * 3) (stacked_positions n k t ps)
  part_points_are = let h = running_bounds in part_is ps' (base * 3) (omega arith) ∙ ap₂ (λ (p : ℕ). drop (p * 3)) at_start r.positions

  module _ (l : k < levels) where
    pub running_levels : Levels count part part_points
    running_levels = rw (part_valences_are, part_rings_are, part_points_are, at_size) (part_levels n levels t ps a k l)

    valences_told : valences_up_to count (count + edges (rows count part)) part ≡ put part.valences count (valence_rows (level (rows n t) (suc k)).ring (level (rows n t) (suc k)).count)
    valences_told = rw (part_valences_are, part_rings_are, at_size) (valences_written n levels t ps a k l)

    rings_told : rings_up_to count (count + edges (rows count part)) part ≡ put part.rings (count * 32) (ring_rows (level (rows n t) (suc k)).ring (level (rows n t) (suc k)).count)
    rings_told = rw (part_valences_are, part_rings_are, at_size) (rings_written n levels t ps a k l)

    positions_told : positions_up_to count (count + edges (rows count part)) part part_points
        ≡ put part_points (count * 3) (point_rows (λ axis. refined (loop (rows n t)) (coordinate_at ps axis) (suc k)) (level (rows n t) (suc k)).count)
    positions_told = rw (part_valences_are, part_rings_are, part_points_are, at_size) (positions_written n levels t ps a k l)

    pub running_more : (vp rp : List ℕ) (pp : List ℤ)
        → vp ≡ valences_up_to count (count + edges (rows count part)) part
        → rp ≡ rings_up_to count (count + edges (rows count part)) part
        → pp ≡ positions_up_to count (count + edges (rows count part)) part part_points
        → (next : Level) → next ≡ above_level below
        → Running n levels t ps (k + 1) next
        (lent (put_mid base (length t'.valences - base) t'.valences vp) (put_mid (base * 32) (length t'.rings - base * 32) t'.rings rp)) (put_mid (base * 3) (length ps' - base * 3) ps' pp)
    running_more vp rp pp ev er ep next up =
        record {
          within = omega arith;
          small = r.small;
          sized = sized_more r.sized up;
          valences = T.valences_more n levels t ps a k l base at_start count at_size t'.valences r.valences vp (ev ∙ valences_told) ∙ ap (λ (j : ℕ). stacked_valences n j t) (sym (add-one k));
          rings = T.rings_more n levels t ps a k l base at_start count at_size t'.rings r.rings rp (er ∙ rings_told) ∙ ap (λ (j : ℕ). stacked_rings n j t) (sym (add-one k));
          positions =
              T.positions_more n levels t ps a k l base at_start count at_size ps' r.positions pp (ep ∙ positions_told)
              ∙ ap (λ (j : ℕ). stacked_positions n j t ps) (sym (add-one k));
        }

  -- all levels are written
  module _ (l : levels ≤ k) where
    done : k ≡ levels
    done = let h = r.within in omega arith

    pub end_counts : counted count below.edges below.faces
        ≡ counted (level (rows n t) levels).count (edges (level (rows n t) levels)) (faces (level (rows n t) levels))
    unfolding rows
    end_counts =
        let c : count ≡ (level (rows n t) levels).count = at_size ∙ ap (λ (j : ℕ). (level (rows n t) j).count) done in
        let e : below.edges ≡ edges (level (rows n t) levels) =
        r.sized.edges ∙ sym (level_edges_lem (rows n t) a.control.sound k) ∙ ap (λ (j : ℕ). edges (level (rows n t) j)) done in
        let f : below.faces ≡ faces (level (rows n t) levels) =
        r.sized.faces ∙ sym (level_faces (rows n t) a.control.sound k) ∙ ap (λ (j : ℕ). faces (level (rows n t) j)) done in
        rw (c, e, f)

    pub end_tables : (t'.valences ≡ stacked_valences n levels t) × ((t'.rings ≡ stacked_rings n levels t) × (ps' ≡ stacked_positions n levels t ps))
    end_tables = rw (← done) (r.valences, (r.rings, r.positions))
