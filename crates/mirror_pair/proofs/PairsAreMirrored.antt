-- A pair is mirrored at every vertex of the stack (document 02, order 3): at every level each point lies opposite the point of the same
-- number, and each ring is the other's reversed, up to where it begins.
-- Assumes nothing.
use mathlib.Core.Path.{◌≡◌, sym, ap, ◌∙◌}
use mathlib.Core.List.{List, reverse}
use Prim.Native.Nat.{ℕ, suc, ◌+◌, ◌≤◌, ◌<◌}
use lib.Dec.{lit<}
use lib.IntN.{ℤ, neg_ℤ}
use lib.ListN.{length}
use Rattle.mesh.specs.Ring.{SameRound}
use Rattle.mesh.specs.Mesh.{Mesh, Sound, edges, faces}
use Rattle.steps.specs.Mask.{refined}
use Rattle.steps.specs.Sizes.{sizes_of, closed_sizes}
use Rattle.steps.proofs.Refresh.{refined_same}
use Rattle.loop_step.specs.Refine.{level}
use Rattle.loop_step.specs.Loop.{loop}
use Rattle.loop_step.proofs.Levels.{loop_grounded}
use Rattle.rings.specs.Table.{Lent, valence_at, ring_of, rows, coordinate_at}
use Rattle.stack_judge.specs.Stack.{level_start}
use Rattle.mirror.specs.Mirror.{Mirrored}
use Rattle.mirror.proofs.Mirrorings.{length_mirrored}
use Rattle.mirror.proofs.MirroredMeshIsSound as sound
use Rattle.mirror.proofs.EveryLevelIsMirrored.{every_level_is_mirrored, y_and_z_stay, x_is_negated}
use Rattle.stack_strange.specs.Expected.{whole}
use Rattle.mirror_pair.specs.Pair.{MirroredTables, Pair}
use Rattle.mirror_pair.proofs.MirroredTablesAreJudgedAlike.{control_mirrored}
use Rattle.mirror_pair.proofs.TrueStacks.{by_control}

module _ (n levels : ℕ) (t : Lent) (ps : List ℤ) (t' : Lent) (ps' : List ℤ) (P : Pair n levels t ps t' ps') where
  abbrev M : Mesh
  M = rows n t

  abbrev N : Mesh
  N = rows n t'

  -- where level k begins, on both sides
  abbrev start : ℕ → ℕ
  start k = level_start (sizes_of n M) k

  S : Sound M
  S = P.left.sound

  R : Mirrored M N
  R = control_mirrored n t ps t' ps' P.controls

  same_edges : edges N ≡ edges M
  same_edges = sound.same_edges M N R

  pub same_sizes : sizes_of n N ≡ sizes_of n M
  unfolding faces
  same_sizes = ap (closed_sizes n) same_edges

  levels_mirrored : (k : ℕ) → Mirrored (level M k) (level N k)
  levels_mirrored = every_level_is_mirrored M N S R

  -- ---- vertex x of level k

  module _ (k x : ℕ) (h : k ≤ levels) (g : x < (level M k).count) where
    pub there : x < (level N k).count
    there = rw (levels_mirrored k).count g

    fresh_left : (axis : ℕ) → axis < 3 → coordinate_at ps axis (start k + x) ≡ refined (loop M) (coordinate_at ps axis) k x
    fresh_left axis b = P.left.fresh.fresh axis b k x h g

    fresh_right : (axis : ℕ) → axis < 3 → coordinate_at ps' axis (start k + x) ≡ refined (loop N) (coordinate_at ps' axis) k x
    fresh_right axis b =
        ap (λ s. coordinate_at ps' axis (level_start s k + x)) (sym same_sizes) ∙ P.right.fresh.fresh axis b k x h there

    -- the same control coordinates by another name
    renamed : (f g : ℕ → ℤ) → ((v : ℕ) → v < n → f v ≡ g v) → refined (loop N) f k x ≡ refined (loop N) g k x
    unfolding loop level rows
    renamed f g same = refined_same (loop N) (loop_grounded N P.right.sound) f g same k x there

    negated : coordinate_at ps' 0 (start k + x) ≡ neg_ℤ (coordinate_at ps 0 (start k + x))
    negated =
        fresh_right 0 (lit< tt)
        ∙ renamed (coordinate_at ps' 0) (λ v. neg_ℤ (coordinate_at ps 0 v)) P.controls.points.x
        ∙ x_is_negated M N S R (coordinate_at ps 0) k x g
        ∙ ap neg_ℤ (sym (fresh_left 0 (lit< tt)))

    stays : (axis : ℕ) → axis < 3 → ((v : ℕ) → v < n → coordinate_at ps' axis v ≡ coordinate_at ps axis v)
        → coordinate_at ps' axis (start k + x) ≡ coordinate_at ps axis (start k + x)
    stays axis b same =
        fresh_right axis b
        ∙ renamed (coordinate_at ps' axis) (coordinate_at ps axis) same
        ∙ y_and_z_stay M N S R (coordinate_at ps axis) k x g
        ∙ sym (fresh_left axis b)

  -- a row of a level above 0
  module _ (k x : ℕ) (h : k < levels) (g : x < (level M (suc k)).count) where
    g' : x < (level N (suc k)).count
    g' = there (suc k) x h g

    valence_right : valence_at t' (start (suc k) + x) ≡ length ((level N (suc k)).ring x)
    valence_right = ap (λ s. valence_at t' (level_start s (suc k) + x)) (sym same_sizes) ∙ P.right.valence k x h g'

    ring_right : ring_of t' (start (suc k) + x) ≡ (level N (suc k)).ring x
    ring_right = ap (λ s. ring_of t' (level_start s (suc k) + x)) (sym same_sizes) ∙ P.right.ring k x h g'

    valence_above : valence_at t' (start (suc k) + x) ≡ valence_at t (start (suc k) + x)
    valence_above =
        valence_right ∙ length_mirrored (level M (suc k)) (level N (suc k)) (levels_mirrored (suc k)) x g ∙ sym (P.left.valence k x h g)

    ring_above : SameRound (reverse (ring_of t (start (suc k) + x))) (ring_of t' (start (suc k) + x))
    ring_above = rw (P.left.ring k x h g, ring_right) ((levels_mirrored (suc k)).ring x g)

  -- ---- every vertex of the stack

  -- the theorem: the tables are mirrored as far as the stack goes
  pub pair_is_mirrored : MirroredTables (whole n levels t ps) t ps t' ps'
  pair_is_mirrored =
      let c = P.controls in
      let o = P.controls.points in
      let by = by_control n levels t ps P.left in
      record {
        valences = c.valences;
        rings = c.rings;
        valence = by (λ j. valence_at t' j ≡ valence_at t j) c.valence valence_above;
        ring = by (λ j. SameRound (reverse (ring_of t j)) (ring_of t' j)) c.ring ring_above;
        points = record {
          long = o.long;
          x = by (λ j. coordinate_at ps' 0 j ≡ neg_ℤ (coordinate_at ps 0 j)) o.x (λ k x h g. negated (suc k) x h g);
          y = by (λ j. coordinate_at ps' 1 j ≡ coordinate_at ps 1 j) o.y (λ k x h g. stays (suc k) x h g 1 (lit< tt) o.y);
          z = by (λ j. coordinate_at ps' 2 j ≡ coordinate_at ps 2 j) o.z (λ k x h g. stays (suc k) x h g 2 (lit< tt) o.z);
        };
      }
