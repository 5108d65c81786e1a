-- What stands in tables that begin with given rows, vertex by vertex; and what an accepted call tells. Assumes nothing.
use Prim.Native.Nat.{ℕ, zero, suc, ◌+◌, ◌-◌, ◌*◌, ◌≤◌, ◌<◌}
use mathlib.Core.Path.{◌≡◌, refl, sym, ap, ◌∙◌}
use mathlib.Core.List.{List, [], ◌∷◌, ◌++◌, append_assoc}
use native.Mathlib.Omega.{arith}
use lib.IntN.{ℤ, pos}
use lib.ListN.{length, get_or, take, drop, replicate, get_or-append}
use lib.Seq.{take_at}
use Rattle.mesh.specs.Limits.{null_vertex}
use Rattle.rings.specs.Table.{Lent, lent, put, gather, ring_of, padded, valence_rows, ring_rows, coordinate_at, point_rows}
use Rattle.rings.specs.Verdict.{with_amount}
use Rattle.rings.proofs.Tables.{length_gather, gather_at, length_padded}
use Rattle.file_format.proofs.Gathered.{gather_drop, gather_one, length_rows_below, put_front}
use Rattle.rings.specs.Refusal.{Verdict}
use Rattle.std.specs.Prelude.{Ok, Err}

-- an answer with a number is an accepted verdict's
pub answered : (v : Verdict) (k n : ℕ) → with_amount v k ≡ Ok n → (v ≡ (Ok tt)) × (k ≡ n)
unfolding with_amount
answered (Ok u) k n e = (refl, cc)
answered (Err r) k n e = absurd (let z : ◌≡◌ {A = ℕ} 0 1 = cc in omega arith)

-- the front of a table
front_at : {A : Type 0} (y b : List A) (i : ℕ) (d : A) → i < length b → get_or (put y 0 b) i d ≡ get_or b i d
front_at y b i d h = ap (λ x. get_or x i d) (put_front y b) ∙ get_or-append b (drop (0 + length b) y) d i h

module _ (n v : ℕ) (l : v < n) where
  module _ (f : ℕ → List ℕ) (most : (k : ℕ) → k < n → length (f k) ≤ 32) (t : Lent) where
    pub in_valence : get_or (put t.valences 0 (valence_rows f n)) v 0 ≡ length (f v)
    unfolding valence_rows
    in_valence =
        front_at t.valences (gather (λ k. length (f k) ∷ []) n) v 0 (omega (arith, length_gather (λ k. length (f k) ∷ []) 1 (λ k. refl) n))
        ∙ gather_one (λ k. length (f k)) n v 0 l

    pub in_ring : ring_of (lent (put t.valences 0 (valence_rows f n)) (put t.rings 0 (ring_rows f n))) v ≡ f v
    unfolding ring_of ring_rows padded
    in_ring =
        let rows : ℕ → List ℕ = λ k. padded (f k) in
        let pad : List ℕ = replicate (32 - length (f v)) null_vertex in
        let e = length_rows_below rows 32 v (λ k h. length_padded (f k) (most k (omega arith))) in
        let (m, q) = gather_drop rows v n (v * 32) (drop (0 + length (gather rows n)) t.rings) l (sym e) in
        ap (λ (k : ℕ). take k (drop (v * 32) (put t.rings 0 (gather rows n)))) in_valence
        ∙ ap (λ (x : List ℕ). take (length (f v)) (drop (v * 32) x)) (put_front t.rings (gather rows n))
        ∙ ap (take (length (f v))) (q ∙ append_assoc (f v) pad m)
        ∙ take_at (f v) (pad ++ m) (length (f v)) refl

  pub in_point : (g : ℕ → ℕ → ℤ) (ps : List ℤ) (axis : ℕ) → axis < 3 → coordinate_at (put ps 0 (point_rows g n)) axis v ≡ g axis v
  unfolding coordinate_at point_rows
  in_point g ps axis h =
      let rows : ℕ → List ℤ = λ k. g 0 k ∷ g 1 k ∷ g 2 k ∷ [] in
      front_at ps (gather rows n) (v * 3 + axis) (pos 0) (omega (arith, length_gather rows 3 (λ k. refl) n)) ∙ gather_at rows 3 (λ k. refl) n v axis (pos 0) l h ∙ third axis h
    where
      third : (axis : ℕ) → axis < 3 → get_or (g 0 v ∷ g 1 v ∷ g 2 v ∷ []) axis (pos 0) ≡ g axis v
      third zero h = refl
      third (suc zero) h = refl
      third (suc (suc zero)) h = refl
      third (suc (suc (suc k))) h = absurd (omega arith)
