-- On a sound mesh, the sizes of level 0 alone give those of every level: what a stack's sizes are worked out from. Assumes nothing.
use mathlib.Core.Path.{◌≡◌, refl, ap, ◌∙◌}
use Prim.Native.Nat.{ℕ, zero, suc, ◌+◌, ◌*◌, ◌/◌, ◌≤◌}
use native.Mathlib.Numerals.{add-one}
use native.Mathlib.Omega.{arith}
use Rattle.mesh.specs.Limits.{most_count, edge_bound}
use Rattle.mesh.specs.Mesh.{Mesh, Sound, edges, faces}
use Rattle.steps.specs.Sizes.{Sizes, sizes_of, closed_sizes}
use Rattle.loop_step.specs.Refine.{level}
use Rattle.loop_step.specs.Loop.{loop_sizes}
use Rattle.loop_step.proofs.RefinedFaces.{refine_sizes}
use Rattle.loop_step.proofs.Levels.{level_sound}
use Rattle.stack_judge.specs.declared.level.Level.{Level}
use Rattle.stack_judge.specs.Stack.{sizes_at, level_edges, level_count, level_start}
use Rattle.stack_judge.specs.LevelAt.{level_at, above_level, SmallLevel}

module _ (M : Mesh) (S : Sound M) where
  pub level_sizes_lem : (k : ℕ) → sizes_of (level M k).count (level M k) ≡ sizes_at (sizes_of M.count M) k
  unfolding level
  level_sizes_lem zero = refl
  level_sizes_lem (suc k) = refine_sizes (level M k) (level_sound M S k) ∙ ap loop_sizes (level_sizes_lem k)

  pub level_count_lem : (k : ℕ) → (level M k).count ≡ level_count (sizes_of M.count M) k
  level_count_lem k = ap (λ (s : Sizes). s.vertices) (level_sizes_lem k)

  pub level_edges_lem : (k : ℕ) → edges (level M k) ≡ level_edges (sizes_of M.count M) k
  level_edges_lem k = ap (λ (s : Sizes). s.edges) (level_sizes_lem k)

  pub level_faces : (k : ℕ) → faces (level M k) ≡ (sizes_at (sizes_of M.count M) k).faces
  level_faces k = ap (λ (s : Sizes). s.faces) (level_sizes_lem k)

-- ---- where a level begins

pub start_none : (s : Sizes) → level_start s 0 ≡ 0
unfolding level_start
start_none s = refl

pub start_suc : (s : Sizes) (k : ℕ) → level_start s (suc k) ≡ level_start s k + level_count s k
unfolding level_start
start_suc s k = refl

-- ---- sizes that are small at level 0 are small four levels above

-- no more faces than a closed mesh has
pub record Few (s : Sizes) : Type 0 where
  pub vertices : s.vertices ≤ most_count
  pub edges : s.edges ≤ edge_bound
  pub faces : 3 * s.faces ≤ 2 * s.edges

pub two_thirds : (e : ℕ) → 3 * (2 * e / 3) ≤ 2 * e
two_thirds e = omega arith

pub few_of : (n : ℕ) (M : Mesh) → n ≤ most_count → edges M ≤ edge_bound → Few (sizes_of n M)
unfolding faces
few_of n M v e = record { vertices = v; edges = e; faces = two_thirds (edges M) }

pub few_closed : {v e : ℕ} → v ≤ most_count → e ≤ edge_bound → Few (closed_sizes v e)
few_closed {v} {e} few small = record { vertices = few; edges = small; faces = two_thirds e }

pub level_small : (s : Sizes) (k : ℕ) → 3 * s.faces ≤ 2 * s.edges → k ≤ 4
    → (level_count s k ≤ s.vertices + 85 * s.edges) × ((level_edges s k ≤ 256 * s.edges) × ((sizes_at s k).faces ≤ 256 * s.edges))
level_small s zero f l = (omega arith, (omega arith, omega arith))
level_small s (suc zero) f l = (omega arith, (omega arith, omega arith))
level_small s (suc (suc zero)) f l = (omega arith, (omega arith, omega arith))
level_small s (suc (suc (suc zero))) f l = (omega arith, (omega arith, omega arith))
level_small s (suc (suc (suc (suc zero)))) f l = (omega arith, (omega arith, omega arith))
level_small s (suc (suc (suc (suc (suc k))))) f l = absurd (omega arith)

pub start_small : (s : Sizes) (k : ℕ) → 3 * s.faces ≤ 2 * s.edges → k ≤ 5 → level_start s k ≤ 5 * s.vertices + 112 * s.edges
unfolding level_start
start_small s zero f l = omega arith
start_small s (suc zero) f l = omega arith
start_small s (suc (suc zero)) f l = omega arith
start_small s (suc (suc (suc zero))) f l = omega arith
start_small s (suc (suc (suc (suc zero)))) f l = omega arith
start_small s (suc (suc (suc (suc (suc zero))))) f l = omega arith
start_small s (suc (suc (suc (suc (suc (suc k)))))) f l = absurd (omega arith)

-- ---- a loop over the levels, with level k in hand

pub record Sized (s : Sizes) (k : ℕ) (l : Level) : Type 0 where
  pub start : l.start ≡ level_start s k
  pub vertices : l.vertices ≡ level_count s k
  pub edges : l.edges ≡ level_edges s k
  pub faces : l.faces ≡ (sizes_at s k).faces

pub sized_none : {s : Sizes} {r : Level} → r ≡ level_at s 0 → Sized s 0 r
unfolding level_at
sized_none e = rw e (record { start = refl; vertices = refl; edges = refl; faces = refl })

-- level 0 of a mesh whose edges are counted
pub sized_ground : {n e : ℕ} {r : Level} (M : Mesh) → r ≡ level_at (closed_sizes n e) 0 → e ≡ edges M → Sized (sizes_of n M) 0 r
unfolding faces
sized_ground {n} M q h = sized_none (q ∙ ap (λ (m : ℕ). level_at (closed_sizes n m) 0) h)

pub sized_more : {s : Sizes} {k : ℕ} {l r : Level} → Sized s k l → r ≡ above_level l → Sized s (k + 1) r
unfolding above_level
sized_more {s} {k} z e =
    rw (e, add-one k)
    (record {
      start = omega (arith, start_suc s k, z.start, z.vertices);
      vertices = omega (arith, z.vertices, z.edges);
      edges = omega (arith, z.edges, z.faces);
      faces = omega (arith, z.faces);
    })

pub sized_small : {s : Sizes} {k : ℕ} {l : Level} → Few s → Sized s k l → k ≤ 4 → SmallLevel l
sized_small {s} {k} f z h =
    let a = level_small s k f.faces h in
    let b = start_small s k f.faces (omega arith) in
    let v = f.vertices in
    let e = f.edges in
    record {
      start = omega (arith, z.start);
      vertices = omega (arith, z.vertices);
      edges = omega (arith, z.edges);
      faces = omega (arith, z.faces);
    }
