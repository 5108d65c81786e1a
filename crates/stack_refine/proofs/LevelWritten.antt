-- One level of the stack written through the parts of the tables that begin where the level below does: what `write_level` requires holds of them,
-- and what it ensures is one level more. Assumes nothing.
use Prim.Native.Nat.{ℕ, suc, ◌+◌, ◌*◌, ◌≤◌, ◌<◌}
use mathlib.Core.Path.{◌≡◌, refl, sym, ap, subst, ◌∙◌}
use mathlib.Core.List.{List, [], ◌∷◌}
use native.Mathlib.Omega.{arith}
use lib.IntN.{ℤ}
use lib.ListN.{length, get_or, drop, length-drop}
use lib.Seq.{get_or-drop}
use Rattle.mesh.specs.Limits.{most_units, most_vertices}
use Rattle.mesh.specs.Search.{sum}
use Rattle.mesh.specs.Mesh.{Mesh, Sound, edges}
use Rattle.steps.specs.Mask.{refined}
use Rattle.steps.specs.Sizes.{sizes_of}
use Rattle.steps.proofs.Refresh.{by_mask_same}
use Rattle.loop_step.specs.Refine.{refine, level}
use Rattle.loop_step.specs.Loop.{loop}
use Rattle.loop_step.proofs.Levels.{level_sound, loop_grounded}
use Rattle.loop_step.proofs.PointsStayInHull.{range_is_kept}
use Rattle.units.specs.Coordinate.{InRange}
use Rattle.rings.specs.Table.{Lent, lent, put, rows, valence_rows, ring_rows, coordinate_at, point_rows}
use Rattle.rings.specs.Accepts.{Room}
use Rattle.rings.proofs.Tables.{gather_same}
use Rattle.stack_judge.specs.Stack.{stack_count}
use Rattle.stack_judge.specs.Accepts.{AcceptsStack}
use Rattle.stack_judge.proofs.Sizes.{level_count_lem}
use Rattle.loop_points.specs.Level.{Levels, next_point, valences_up_to, rings_up_to, positions_up_to}
use Rattle.stack_refine.specs.Refinement.{stacked_valences, stacked_rings, stacked_positions}
use Rattle.stack_refine.proofs.StackLevels as T

-- rows of points by their coordinates
points_same : (f g : ℕ → ℕ → ℤ) (n : ℕ) → ((axis x : ℕ) → axis < 3 → x < n → f axis x ≡ g axis x) → point_rows f n ≡ point_rows g n
unfolding point_rows
points_same f g n same =
    gather_same (λ v. f 0 v ∷ f 1 v ∷ f 2 v ∷ []) (λ v. g 0 v ∷ g 1 v ∷ g 2 v ∷ []) n
    (λ x h. let a = same 0 x (omega arith) h in let b = same 1 x (omega arith) h in let c = same 2 x (omega arith) h in cc)

module _ (n levels : ℕ) (t : Lent) (ps : List ℤ) (a : AcceptsStack n levels t ps) where
  abbrev M : Mesh
  M = rows n t

  abbrev size : ℕ → ℕ
  size k = (level M k).count

  S : Sound M
  S = a.control.sound

  -- a coordinate of any level is in the range
  pub level_near : (axis : ℕ) → axis < 3 → (k x : ℕ) → x < size k → InRange (refined (loop M) (coordinate_at ps axis) k x)
  unfolding rows
  level_near axis b k x h = range_is_kept M S (coordinate_at ps axis) most_units (λ v g. a.control.near v g axis b) k x h

  module _ (k : ℕ) (l : k < levels) where
    abbrev vk : List ℕ
    vk = stacked_valences n k t

    abbrev rk : List ℕ
    rk = stacked_rings n k t

    abbrev pk : List ℤ
    pk = stacked_positions n k t ps

    next_count : size (suc k) ≡ size k + edges (level M k)
    unfolding level refine
    next_count = refl

    next_fits : size (suc k) ≤ most_vertices
    unfolding rows
    next_fits = rw (level_count_lem M S (suc k)) (a.fits (suc k) l)

    -- the parts of the tables that begin where level k does
    abbrev vpart : List ℕ
    vpart = drop (sum size k) vk

    abbrev rpart : List ℕ
    rpart = drop (sum size k * 32) rk

    abbrev ppart : List ℤ
    ppart = drop (sum size k * 3) pk

    here : rows (size k) (lent vpart rpart) ≡ level M k
    here = T.level_part n levels t ps a k (omega arith) k (omega arith)

    edges_here : edges (rows (size k) (lent vpart rpart)) ≡ edges (level M k)
    edges_here = ap edges here

    both_fit : sum size k + (size k + size (suc k)) ≤ stack_count (sizes_of n M) levels
    both_fit = let r = T.levels_room n levels t ps a (suc k) l in omega arith

    both : size k + (size k + edges (rows (size k) (lent vpart rpart))) ≡ size k + size (suc k)
    both = omega (arith, edges_here, next_count)

    room : Room (size k + (size k + edges (rows (size k) (lent vpart rpart)))) (lent vpart rpart)
    room =
        let f = both_fit in
        let v = T.valences_length n levels t ps a k (omega arith) in
        let r = T.rings_length n levels t ps a k (omega arith) in
        let x = a.room.valences in
        let y = a.room.rings in
        rw both (record { valences = omega (arith, length-drop (sum size k) vk); rings = omega (arith, length-drop (sum size k * 32) rk) })

    most : (v : ℕ) → v < size k → get_or vpart v 0 ≤ 32
    most v h =
        let e = get_or-drop (sum size k) vk v 0 ∙ T.valence_at_lem n levels t ps a k (omega arith) k v (omega arith) h in
        let m : length ((level M k).ring v) ≤ 32 = ((level_sound M S k).proper v h).short in
        omega arith

    near : (v : ℕ) → v < size k → (axis : ℕ) → axis < 3 → InRange (coordinate_at ppart axis v)
    near v h axis b = subst InRange (sym (T.coordinate_part n levels t ps a k (omega arith) axis b k v (omega arith) h)) (level_near axis b k v h)

    long : (size k + size (suc k)) * 3 ≤ length ppart
    long =
        let f = both_fit in
        let p = T.positions_length n levels t ps a k (omega arith) in
        let x = a.points in
        omega (arith, length-drop (sum size k * 3) pk)

    -- what `write_level` requires of them
    pub part_levels : Levels (size k) (lent vpart rpart) ppart
    part_levels =
        let g = long in
        let b = both in
        record {
          ready = record {
            room = room;
            most = most;
            sound = subst Sound (sym here) (level_sound M S k);
            fits = omega (arith, edges_here, next_count, next_fits);
          };
          near = record { points = omega arith; near = near };
          points = omega arith;
        }

    -- what it ensures of them
    pub valences_written : valences_up_to (size k) (size k + edges (rows (size k) (lent vpart rpart))) (lent vpart rpart) ≡ put vpart (size k) (valence_rows (level M (suc k)).ring (size (suc k)))
    unfolding valences_up_to level refine
    valences_written = ap (λ (N : Mesh). put vpart (size k) (valence_rows (refine N).ring (size k + edges N))) here

    pub rings_written : rings_up_to (size k) (size k + edges (rows (size k) (lent vpart rpart))) (lent vpart rpart) ≡ put rpart (size k * 32) (ring_rows (level M (suc k)).ring (size (suc k)))
    unfolding rings_up_to level refine
    rings_written = ap (λ (N : Mesh). put rpart (size k * 32) (ring_rows (refine N).ring (size k + edges N))) here

    next_point_lem : (axis x : ℕ) → axis < 3 → x < size (suc k) → next_point (level M k) ppart axis x ≡ refined (loop M) (coordinate_at ps axis) (suc k) x
    unfolding next_point refined loop
    next_point_lem axis x b h =
        by_mask_same (loop M) (loop_grounded M S) k x h (coordinate_at ppart axis) (refined (loop M) (coordinate_at ps axis) k)
        (λ v g. T.coordinate_part n levels t ps a k (omega arith) axis b k v (omega arith) g)

    pub positions_written : positions_up_to (size k) (size k + edges (rows (size k) (lent vpart rpart))) (lent vpart rpart) ppart ≡ put ppart (size k * 3) (point_rows (λ axis. refined (loop M) (coordinate_at ps axis) (suc k)) (size (suc k)))
    unfolding positions_up_to level refine
    positions_written =
        ap (λ (N : Mesh). put ppart (size k * 3) (point_rows (next_point N ppart) (size k + edges N))) here
        ∙ ap (put ppart (size k * 3)) (points_same (next_point (level M k) ppart) (λ axis. refined (loop M) (coordinate_at ps axis) (suc k)) (size (suc k)) next_point_lem)
