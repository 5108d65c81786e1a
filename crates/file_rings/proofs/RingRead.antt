-- What reading the neighbours of a ring shows. Assumes nothing.
use Prim.Native.Nat.{ℕ, ◌+◌, ◌-◌, ◌*◌, ◌≤◌, ◌<◌}
use mathlib.Core.Path.{◌≡◌, refl, sym, ap, ap₂, subst, ◌∙◌}
use mathlib.Core.List.{List, [], ◌∷◌, ◌++◌}
use native.Mathlib.Nat.{add-zero}
use native.Mathlib.Omega.{arith}
use lib.ListN.{length, set, replicate, length-replicate, length-set, replicate-append-replicate}
use Rattle.mesh.specs.Limits.{null_vertex}
use Rattle.rings.specs.Table.{put, gather, padded}
use Rattle.rings.proofs.Tables.{length_gather}
use Rattle.file_format.specs.Bytes.{number_at}
use Rattle.file_format.specs.Blocks.{Put, gather_from}
use Rattle.file_format.specs.Layout.{row_at, file_valence, neighbour_at, file_ring}
use Rattle.file_format.specs.Judging.{Row}
use Rattle.file_format.proofs.Blocks.{put_one, then, put_is, renewed}

-- one element that a call gave
pub one_is : {A : Type 0} {l : List A} {i : ℕ} {a b : A} → b ≡ a → i < length l → Put l i (a ∷ []) (set l i b)
one_is {A} {l} {i} e h = put_is (ap (λ (x : A). x ∷ []) e) (put_one h)

-- ---- a row of null vertices

pub row_cleared : {l m : List ℕ} (v : ℕ) → v * 32 + 32 ≤ length l → m ≡ put l (v * 32 + 0) (replicate 32 null_vertex) → Put l (v * 32) (replicate 32 null_vertex) m
row_cleared {l} {m} v h e = record { fits = let w = length-replicate {A = ℕ} 32 null_vertex in omega arith; is = e ∙ ap (λ (k : ℕ). put l k (replicate 32 null_vertex)) (add-zero (v * 32)) }

-- ---- neighbours

pub length_neighbours : (s : List ℕ) (from n : ℕ) → length (gather (neighbour_at s from) n) ≡ n * 1
length_neighbours s from n = length_gather (neighbour_at s from) 1 (λ i. refl) n

pub length_ring : (s : List ℕ) (v : ℕ) → length (file_ring s v) ≡ file_valence s (row_at s v)
unfolding file_ring
length_ring s v = let h = length_neighbours s (row_at s v + 20) (file_valence s (row_at s v)) in omega arith

pub row_valence : {s : List ℕ} {v at n : ℕ} → Row s v at n → n ≡ file_valence s (row_at s v)
row_valence {s} r = r.valence ∙ ap (file_valence s) r.begins

-- the neighbours that were read are the row's ring
ring_here : {s : List ℕ} {v at n : ℕ} → Row s v at n → gather (neighbour_at s (at + 20)) n ≡ file_ring s v
unfolding file_ring
ring_here {s} r = ap₂ (λ (k j : ℕ). gather (neighbour_at s (k + 20)) j) r.begins (row_valence r)

-- a row of null vertices, and the ring over its front
pub ring_padded : {s l m t : List ℕ} {v at n k : ℕ} → Row s v at n → Put l (v * 32) (replicate 32 null_vertex) m → Put m k (gather (neighbour_at s (at + 20)) n) t → k ≡ v * 32 → Put l (v * 32) (padded (file_ring s v)) t
unfolding padded
ring_padded {s} {l} {m} {t} {v} {at} {n} {k} r p q e =
    let ring = file_ring s v in
    let h : length ring ≡ n = length_ring s v ∙ sym (row_valence r) in
    let x : 32 ≡ n + (32 - length ring) = let w = r.most in omega arith in
    let y : replicate {A = ℕ} 32 null_vertex ≡ replicate n null_vertex ++ replicate (32 - length ring) null_vertex =
    ap (λ (j : ℕ). replicate {A = ℕ} j null_vertex) x ∙ sym (replicate-append-replicate n (32 - length ring) null_vertex) in
    renewed (replicate n null_vertex) (replicate (32 - length ring) null_vertex) ring (put_is y p) (subst (λ (j : ℕ). Put m j ring t) e (put_is (ring_here r) q)) (h ∙ sym (length-replicate {A = ℕ} n null_vertex))

-- four elements
four_is : {l : List ℕ} {k : ℕ} {x y z w p q r t : ℕ} → p ≡ x → q ≡ y → r ≡ z → t ≡ w → k + 4 ≤ length l → Put l k (x ∷ y ∷ z ∷ w ∷ []) (set (set (set (set l k p) (k + 1) q) (k + 2) r) (k + 3) t)
four_is a b c d h =
    then (then (then (one_is a (omega arith)) (one_is b (simp length-set (omega arith))) refl) (one_is c (simp length-set (omega arith))) refl) (one_is d (simp length-set (omega arith))) refl

-- neighbour i + j of those that stand from a place on
number_is : (s : List ℕ) (from i j : ℕ) {k x : ℕ} → k ≡ from + i * 2 + j * 2 → x ≡ number_at s k 2 → x ≡ number_at s (from + (i + j) * 2) 2
number_is s from i j e p = p ∙ ap (λ (k : ℕ). number_at s k 2) (e ∙ (let g : from + i * 2 + j * 2 ≡ from + (i + j) * 2 = omega arith in g))

-- four neighbours, from the i-th on
pub four_read : {l : List ℕ} {k a b c d : ℕ} (s : List ℕ) (from i : ℕ) → a ≡ number_at s (from + i * 2) 2 → b ≡ number_at s (from + i * 2 + 2) 2 → c ≡ number_at s (from + i * 2 + 4) 2
    → d ≡ number_at s (from + i * 2 + 6) 2 → k + 4 ≤ length l → Put l k (gather_from (neighbour_at s from) i 4) (set (set (set (set l k a) (k + 1) b) (k + 2) c) (k + 3) d)
unfolding gather_from
four_read s from i p q r t h =
    four_is (number_is s from i 0 (omega arith) p) (number_is s from i 1 (omega arith) q) (number_is s from i 2 (omega arith) r) (number_is s from i 3 (omega arith) t) h
