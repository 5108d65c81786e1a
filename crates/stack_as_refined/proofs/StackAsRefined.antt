-- A stack in which no vertex is strange is exactly the one that refinement gives: each level, read from where it begins, is the abstract level, with valences of at
-- most 32 and coordinates in range. Assumes nothing.
use Prim.Native.Nat.{ℕ, zero, suc, ◌+◌, ◌*◌, ◌≤◌, ◌<◌}
use mathlib.Core.Path.{◌≡◌, sym, ap, subst, ◌∙◌}
use mathlib.Core.Bool.{false, cond}
use mathlib.Core.List.{List}
use native.Mathlib.Omega.{arith}
use lib.Dec.{ltb}
use lib.IntN.{ℤ}
use lib.ListN.{length, get_or, drop, length-drop}
use lib.Seq.{get_or-drop}
use borrow.Author.Tests.{lt-ltb}
use Rattle.mesh.specs.Search.{first}
use Rattle.mesh.specs.Mesh.{Mesh, mesh, edges}
use Rattle.mesh.proofs.First.{Clear, or_both}
use Rattle.mesh.proofs.SoundMeshes.{mesh_same}
use Rattle.steps.specs.Sizes.{sizes_of}
use Rattle.loop_step.specs.Refine.{low_end, high_end, old_ring, new_ring, refine, level}
use Rattle.loop_step.proofs.Levels.{level_sound}
use Rattle.units.specs.Coordinate.{InRange}
use Rattle.rings.specs.Table.{Lent, lent, valence_at, ring_of, rows, coordinate_at}
use Rattle.rings.specs.Check.{beyond_at}
use Rattle.rings.proofs.Rows.{rows_ring, row_length, room_row}
use Rattle.rings.proofs.Checks.{near_of, not_beyond}
use Rattle.stack_judge.specs.Stack.{level_edges, level_count, level_start, stack_count}
use Rattle.stack_judge.specs.Accepts.{AcceptsStack}
use Rattle.stack_judge.proofs.Sizes.{level_count_lem, level_edges_lem, start_none, start_suc}
use Rattle.stack_judge.proofs.StackVertices.{starts_climb, vertex_in}
use Rattle.loop_points.specs.Level.{Ready, Near}
use Rattle.stack_refine.proofs.StackLevels.{ring_part, point_part}
use Rattle.stack_strange.specs.Expected.{whole, strange}
use Rattle.stack_strange.proofs.Strange.{as_wanted, not_other}
use Rattle.stack_strange.proofs.NextNumbers.{clear_to, clear_all}
use Rattle.stack_as_refined.proofs.StackRows.{strange_is, clear_stack}

-- level k: how many vertices it has, where it begins, and the parts of the tables that begin there
module _ (n : ℕ) (t : Lent) (k : ℕ) where
  abbrev pub size : ℕ
  size = level_count (sizes_of n (rows n t)) k

  abbrev pub begin : ℕ
  begin = level_start (sizes_of n (rows n t)) k

  abbrev pub valences_from : List ℕ
  valences_from = drop begin t.valences

  abbrev pub rings_from : List ℕ
  rings_from = drop (begin * 32) t.rings

  abbrev pub positions_from : List ℤ → List ℤ
  positions_from ps = drop (begin * 3) ps

-- level k of the stack is what refinement gives, with coordinates in range
pub record AsRefined (n : ℕ) (t : Lent) (ps : List ℤ) (k : ℕ) : Type 0 where
  pub mesh : rows (size n t k) (lent (valences_from n t k) (rings_from n t k)) ≡ level (rows n t) k
  pub most : (x : ℕ) → x < size n t k → get_or (valences_from n t k) x 0 ≤ 32
  pub near : Near (size n t k) (positions_from n t k ps)

pub of_near : (ps : List ℤ) (v : ℕ) → ((axis : ℕ) → axis < 3 → InRange (coordinate_at ps axis v)) → beyond_at ps v ≡ false
unfolding beyond_at
of_near ps v h = or_both _ _ (not_beyond _ (h 0 (omega arith))) (or_both _ _ (not_beyond _ (h 1 (omega arith))) (not_beyond _ (h 2 (omega arith))))

-- a refined mesh is the mesh of its rings
refined_again : (M : Mesh) → mesh (refine M).count (refine M).ring ≡ refine M
unfolding refine
refined_again M =
    let rings : ℕ → List ℕ = λ x. cond (ltb x M.count) (old_ring M x) (new_ring M (low_end M x) (high_end M x)) in
    mesh_same (M.count + edges M) (mesh (M.count + edges M) rings).ring rings (λ v h. rw (lt-ltb v (M.count + edges M) h))

module _ (n levels : ℕ) (t : Lent) (ps : List ℤ) (a : AcceptsStack n levels t ps) where
  abbrev M : Mesh
  M = rows n t

  -- ---- a level above 0

  module _ (k : ℕ) (l : k < levels) (all : Clear (strange n levels t ps) (begin n t (suc (suc k)))) where
    module _ (x : ℕ) (h : x < size n t (suc k)) where
      vertex_as_wanted : (valence_at t (begin n t (suc k) + x) ≡ length ((level M (suc k)).ring x)) × ((ring_of t (begin n t (suc k) + x) ≡ (level M (suc k)).ring x) × (beyond_at ps (begin n t (suc k) + x) ≡ false))
      vertex_as_wanted =
          let b : begin n t (suc k) + x < begin n t (suc (suc k)) = omega (arith, start_suc (sizes_of n M) (suc k)) in
          as_wanted ((level M (suc k)).ring x) t ps (begin n t (suc k) + x) (sym (strange_is n levels t ps k x l h) ∙ all.below (begin n t (suc k) + x) b)

    count_is : (level M (suc k)).count ≡ size n t (suc k)
    unfolding rows
    count_is = level_count_lem M a.control.sound (suc k)

    points_room : begin n t (suc (suc k)) * 3 ≤ length ps
    unfolding stack_count
    points_room = let c = starts_climb (sizes_of n M) (suc (suc k)) (suc levels) (omega arith) in let p = a.points in omega arith

    upper : AsRefined n t ps (suc k)
    unfolding rows level
    upper = record {
      mesh =
          mesh_same (size n t (suc k)) (ring_of (lent (drop (begin n t (suc k)) t.valences) (drop (begin n t (suc k) * 32) t.rings))) (level M (suc k)).ring
          (λ x h. ring_part t (begin n t (suc k)) x ∙ (vertex_as_wanted x h).1.0)
          ∙ ap (λ (m : ℕ). mesh m (level M (suc k)).ring) (sym count_is)
          ∙ refined_again (level M k);
      most = λ x h.
          subst (λ (m : ℕ). m ≤ 32) (sym (get_or-drop (begin n t (suc k)) t.valences x 0 ∙ (vertex_as_wanted x h).0)) ((level_sound M a.control.sound (suc k)).proper x (rw count_is h)).short;
      near = record {
        points = let p = points_room in rw length-drop (omega (arith, start_suc (sizes_of n M) (suc k)));
        near = λ x h axis g. rw (point_part ps (begin n t (suc k)) axis x) (near_of ps (begin n t (suc k) + x) (vertex_as_wanted x h).1.1 axis g);
      };
    }

  -- ---- level 0, which the check accepted

  control : AsRefined n t ps 0
  unfolding level
  control = record {
    mesh = rw (start_none (sizes_of n M));
    most = rw (start_none (sizes_of n M)) a.control.most;
    near = rw (start_none (sizes_of n M)) (record { points = a.control.points; near = a.control.near });
  }

  -- ---- the levels up to k, where nothing up to there is strange

  pub level_as_refined : (k : ℕ) → k ≤ levels → Clear (strange n levels t ps) (begin n t (suc k)) → AsRefined n t ps k
  level_as_refined zero l all = control
  level_as_refined (suc k) l all = upper k l all

  -- ---- the whole stack

  pub stack_as_refined : whole n levels t ps ≡ first (strange n levels t ps) (whole n levels t ps) → (k : ℕ) → k ≤ levels → AsRefined n t ps k
  unfolding whole stack_count
  stack_as_refined none k l =
      let all = clear_to (strange n levels t ps) (begin n t (suc levels)) none (omega arith) in
      level_as_refined k l (record { below = λ j h. all.below j (omega (arith, starts_climb (sizes_of n M) (suc k) (suc levels) (omega arith))) })

  -- and back: where every level is the refined one and in range, no vertex is strange
  module _ (all : (k : ℕ) → k ≤ levels → AsRefined n t ps k) where
    module _ (k x : ℕ) (l : k < levels) (h : x < size n t (suc k)) where
      ring_there : ring_of t (begin n t (suc k) + x) ≡ (level M (suc k)).ring x
      ring_there =
          sym (ring_part t (begin n t (suc k)) x)
          ∙ sym (rows_ring (size n t (suc k)) (lent (valences_from n t (suc k)) (rings_from n t (suc k))) x h)
          ∙ ap (λ (N : Mesh). N.ring x) (all (suc k) l).mesh

      valence_there : valence_at t (begin n t (suc k) + x) ≡ length ((level M (suc k)).ring x)
      valence_there =
          let m : valence_at t (begin n t (suc k) + x) ≤ 32 = rw (get_or-drop (begin n t (suc k)) t.valences x 0) at ((all (suc k) l).most x h) in
          sym (row_length t (begin n t (suc k) + x) (room_row a.room (vertex_in (sizes_of n M) levels (suc k) x l h) m)) ∙ ap length ring_there

      point_there : beyond_at ps (begin n t (suc k) + x) ≡ false
      point_there = of_near ps (begin n t (suc k) + x) (λ axis b. rw (point_part ps (begin n t (suc k)) axis x) at ((all (suc k) l).near.near x h axis b))

      vertex_not_strange : strange n levels t ps (begin n t (suc k) + x) ≡ false
      vertex_not_strange =
          strange_is n levels t ps k x l h ∙ not_other ((level M (suc k)).ring x) t ps (begin n t (suc k) + x) valence_there ring_there point_there

    pub nothing_is_strange : whole n levels t ps ≡ first (strange n levels t ps) (whole n levels t ps)
    unfolding whole
    nothing_is_strange = clear_all (clear_stack n levels t ps vertex_not_strange)

  -- ---- a level that stands as refinement gives it, and the next one behind it: what a sweep from one to the other asks

  module _ (k : ℕ) (l : k < levels) (z : AsRefined n t ps k) where
    pub part_edges : edges (rows (size n t k) (lent (valences_from n t k) (rings_from n t k))) ≡ level_edges (sizes_of n M) k
    unfolding rows
    part_edges = ap edges z.mesh ∙ level_edges_lem M a.control.sound k

    -- both levels have room
    both : begin n t k + (size n t k + size n t (suc k)) ≤ stack_count (sizes_of n M) levels
    unfolding stack_count
    both = omega (arith, start_suc (sizes_of n M) k, start_suc (sizes_of n M) (suc k), starts_climb (sizes_of n M) (suc (suc k)) (suc levels) (omega arith))

    pub part_ready : Ready (size n t k) (lent (valences_from n t k) (rings_from n t k))
    part_ready = record {
      room =
          rw part_edges
          (record { valences = let b = both in let r = a.room.valences in rw length-drop (omega arith); rings = let b = both in let r = a.room.rings in rw length-drop (omega arith) });
      most = z.most;
      sound = rw z.mesh (level_sound M a.control.sound k);
      fits = rw part_edges (a.fits (suc k) l);
    }

    pub part_points : (size n t k + (size n t k + edges (rows (size n t k) (lent (valences_from n t k) (rings_from n t k))))) * 3 ≤ length (positions_from n t k ps)
    part_points = rw (part_edges, length-drop) (let b = both in let r = a.points in omega arith)
