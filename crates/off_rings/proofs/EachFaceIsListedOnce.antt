-- The faces of a sound mesh as they are listed (document 02, order 4): each is a face of the mesh and begins with its smallest corner,
-- each face of the mesh is there once, and they ascend.
-- Assumes nothing.
use mathlib.Core.Path.{◌≡◌, refl, ◌∙◌}
use mathlib.Core.Bool.{Bool, true, false, cond}
use mathlib.Core.List.{List, [], ◌∷◌, ◌++◌}
use mathlib.Core.Logic.{inl, inr}
use Prim.Native.Nat.{ℕ, zero, suc, ◌<◌}
use native.Mathlib.Omega.{arith}
use lib.ListN.{length, get_or}
use Rattle.mesh.specs.Search.{bit}
use Rattle.mesh.specs.Ring.{◌∈◌}
use Rattle.mesh.specs.Mesh.{Mesh, Sound}
use Rattle.off_rings.specs.Faces.{Face, has_pair}
use Rattle.off_rings.specs.Listed.{Earlier, face_at, begins, faces_from, faces_below, listed}
use Rattle.off_rings.proofs.Corners.{begun}
use Rattle.off_rings.proofs.Tallies.{tally, Every, every_append, every_at, every_listed}
use Rattle.off_rings.proofs.ListedPairs.{listed_pairs}
use Rattle.off_rings.proofs.WrittenFacesReadBack.{FaceOf, begun_face}

-- ---- lists in which each face comes before all that follow

abbrev Climbing : List Face → Type 0
Climbing [] = Unit {0}
Climbing (f ∷ l) = Every (Earlier f) l × Climbing l

climb_append : (s t : List Face) → Climbing s → Climbing t → Every (λ f. Every (Earlier f) t) s → Climbing (s ++ t)
climb_append [] t a b c = b
climb_append (f ∷ s) t a b c = (every_append (Earlier f) s t a.0 c.0, climb_append s t a.1 b c.1)

climb_at : (l : List Face) (d : Face) → Climbing l → (i j : ℕ) → i < j → j < length l → Earlier (get_or l i d) (get_or l j d)
climb_at [] d c i j h g = absurd (omega arith)
climb_at (f ∷ l) d c i zero h g = absurd (omega arith)
climb_at (f ∷ l) d c zero (suc j) h g = every_at (Earlier f) l d j c.0 (omega arith)
climb_at (f ∷ l) d c (suc i) (suc j) h g = climb_at l d c.1 i j (omega arith) (omega arith)

every_more : (P Q : Face → Type 0) → ((f : Face) → P f → Q f) → (l : List Face) → Every P l → Every Q l
every_more P Q h [] e = tt
every_more P Q h (f ∷ l) e = (h f e.0, every_more P Q h l e.1)

-- ---- the faces of a mesh

module _ (M : Mesh) where
  -- those of a have a as their first corner, and their second below k
  from_faces : (a k : ℕ) → Every (λ f. (f.a ≡ a) × (f.b < k)) (faces_from M a k)
  unfolding faces_from face_at
  from_faces a zero = tt
  from_faces a (suc k) =
      every_append (λ f. (f.a ≡ a) × (f.b < suc k)) (faces_from M a k) (cond (begins M a k) (face_at M a k ∷ []) [])
      (every_more _ _ (λ f p. (p.0, omega arith)) (faces_from M a k) (from_faces a k)) (one (begins M a k))
    where
      one : (t : Bool) → Every (λ f. (f.a ≡ a) × (f.b < suc k)) (cond t (face_at M a k ∷ []) [])
      one true = ((refl, omega arith), tt)
      one false = tt

  below_faces : (k : ℕ) → Every (λ f. f.a < k) (faces_below M k)
  unfolding faces_below
  below_faces zero = tt
  below_faces (suc k) =
      every_append (λ f. f.a < suc k) (faces_below M k) (faces_from M k M.count)
      (every_more _ _ (λ f p. omega arith) (faces_below M k) (below_faces k))
      (every_more _ _ (λ f p. omega (arith, p.0)) (faces_from M k M.count) (from_faces k M.count))

  climb_from : (a k : ℕ) → Climbing (faces_from M a k)
  unfolding faces_from face_at
  climb_from a zero = tt
  climb_from a (suc k) =
      climb_append (faces_from M a k) (cond (begins M a k) (face_at M a k ∷ []) []) (climb_from a k) (one (begins M a k))
      (every_more _ _ (λ f p. later f p.0 p.1 (begins M a k)) (faces_from M a k) (from_faces a k))
    where
      one : (t : Bool) → Climbing (cond t (face_at M a k ∷ []) [])
      one true = (tt, tt)
      one false = tt

      later : (f : Face) → f.a ≡ a → f.b < k → (t : Bool) → Every (Earlier f) (cond t (face_at M a k ∷ []) [])
      later f e l true = (inr (e, l), tt)
      later f e l false = tt

  climb_below : (k : ℕ) → Climbing (faces_below M k)
  unfolding faces_below
  climb_below zero = tt
  climb_below (suc k) =
      climb_append (faces_below M k) (faces_from M k M.count) (climb_below k) (climb_from k M.count)
      (every_more _ _ (λ f l. every_more _ _ (λ g p. inl (omega (arith, p.0))) (faces_from M k M.count) (from_faces k M.count))
      (faces_below M k) (below_faces k))

  -- they ascend
  pub listed_ascends : (d : Face) (i j : ℕ) → i < j → j < length (listed M) → Earlier (get_or (listed M) i d) (get_or (listed M) j d)
  unfolding listed
  listed_ascends d = climb_at (faces_below M M.count) d (climb_below M.count)

  module _ (S : Sound M) where
    -- each is a face of the mesh
    pub listed_are_faces : (d : Face) (i : ℕ) → i < length (listed M) → FaceOf M (get_or (listed M) i d)
    listed_are_faces d i h = every_at (FaceOf M) (listed M) d i (every_listed M (FaceOf M) (begun_face M S)) h

    -- and its smallest corner comes first
    pub smallest_corner_first : (d : Face) (i : ℕ) → i < length (listed M) → let f = get_or (listed M) i d in (f.a < f.b) × (f.a < f.c)
    unfolding face_at
    smallest_corner_first d i h =
        every_at (λ f. (f.a < f.b) × (f.a < f.c)) (listed M) d i
        (every_listed M (λ f. (f.a < f.b) × (f.a < f.c)) (λ a b l e. let k = begun M S a b e in (k.ab, k.ac))) h

    -- the face u, v, next(u in v) is there once
    pub each_face_once : (u v : ℕ) → v < M.count → u ∈ M.ring v → tally (λ f. bit (has_pair u v f)) (listed M) ≡ 1
    each_face_once u v l m =
        let P = S.proper v l in
        listed_pairs M S u v (P.known u m) l ∙ omega (arith, P.distinct u)
