-- To be believed.
-- The mirrored pair in lent tables (document 02, order 3): the left tables and the right ones.
-- Assumes nothing.
use Rattle.std.specs.Prelude.{◌≡◌, List, [], ◌∷◌, reverse, ℕ, suc, ◌+◌, ◌*◌, ◌≤◌, ◌<◌, ℤ, neg_ℤ, length}
use Rattle.mesh.specs.Ring.{SameRound}
use Rattle.mesh.specs.Mesh.{Sound}
use Rattle.steps.specs.Sizes.{sizes_of}
use Rattle.loop_step.specs.Refine.{level}
use Rattle.rings.specs.Table.{Lent, valence_at, gather, put, ring_of, rows, ring_rows, coordinate_at}
use Rattle.stack_judge.specs.Stack.{level_start}
use Rattle.mirror.specs.Mirror.{mirror}
use Rattle.move_lists.specs.Fresh.{Fresh}

-- the points of the first n vertices lie on the two sides of x = 0, in tables of the same length
pub record Opposite (n : ℕ) (ps ps' : List ℤ) : Type 0 where
  pub long : length ps' ≡ length ps
  pub x : (v : ℕ) → v < n → coordinate_at ps' 0 v ≡ neg_ℤ (coordinate_at ps 0 v)
  pub y : (v : ℕ) → v < n → coordinate_at ps' 1 v ≡ coordinate_at ps 1 v
  pub z : (v : ℕ) → v < n → coordinate_at ps' 2 v ≡ coordinate_at ps 2 v

-- the first n vertices of two sets of tables are mirrored: the same valences, the rings reversed up to where they begin, and opposite points
pub record MirroredTables (n : ℕ) (t : Lent) (ps : List ℤ) (t' : Lent) (ps' : List ℤ) : Type 0 where
  pub valences : length t'.valences ≡ length t.valences
  pub rings : length t'.rings ≡ length t.rings
  pub valence : (v : ℕ) → v < n → valence_at t' v ≡ valence_at t v
  pub ring : (v : ℕ) → v < n → SameRound (reverse (ring_of t v)) (ring_of t' v)
  pub points : Opposite n ps ps'

-- the image of the first n vertices: each ring reversed, as a row is written, and each x negated; the valences are the same
unfoldable pub image_rings : ℕ → Lent → List ℕ
image_rings n t = put t.rings 0 (ring_rows (mirror (rows n t)).ring n)

-- its point v, and its positions
abbrev pub image_point : List ℤ → ℕ → List ℤ
image_point ps v = neg_ℤ (coordinate_at ps 0 v) ∷ coordinate_at ps 1 v ∷ coordinate_at ps 2 v ∷ []

unfoldable pub image_positions : ℕ → List ℤ → List ℤ
image_positions n ps = put ps 0 (gather (image_point ps) n)

-- a true stack, as a refinement leaves it and lists of moves keep it: a sound control mesh, and above it the rows and the points that refining it gives
pub record TrueStack (n levels : ℕ) (t : Lent) (ps : List ℤ) : Type 0 where
  pub sound : Sound (rows n t)
  pub room : n * 3 ≤ length ps
  pub valence : (k x : ℕ) → k < levels → x < (level (rows n t) (suc k)).count
      → valence_at t (level_start (sizes_of n (rows n t)) (suc k) + x) ≡ length ((level (rows n t) (suc k)).ring x)
  pub ring : (k x : ℕ) → k < levels → x < (level (rows n t) (suc k)).count
      → ring_of t (level_start (sizes_of n (rows n t)) (suc k) + x) ≡ (level (rows n t) (suc k)).ring x
  pub fresh : Fresh n levels t ps

-- the pair: two such stacks, and their control meshes mirrored
pub record Pair (n levels : ℕ) (t : Lent) (ps : List ℤ) (t' : Lent) (ps' : List ℤ) : Type 0 where
  pub controls : MirroredTables n t ps t' ps'
  pub left : TrueStack n levels t ps
  pub right : TrueStack n levels t' ps'
