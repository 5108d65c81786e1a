-- A block of a table written place by place, row after row, and over what was written; and the places of a padded row. Assumes nothing.
use Prim.Native.Nat.{ℕ, ◌+◌, ◌-◌, ◌≤◌, ◌<◌}
use mathlib.Core.Path.{◌≡◌, sym, ap, subst, ◌∙◌}
use mathlib.Core.List.{List, [], ◌∷◌, ◌++◌}
use mathlib.Core.Logic.{⊎_elim}
use native.Mathlib.Numerals.{add-one}
use native.Mathlib.Omega.{arith}
use lib.ListN.{length, get_or, take, drop, set, replicate, length-take, length-drop, length-replicate, replicate-append-replicate, get_or-replicate, get_or-append}
use lib.Seq.{set_split, take-suc, length-take-le, drop-drop, ext_get_or}
use borrow.Rule.Slice.PartMut.{put_mid}
use Rattle.mesh.specs.Limits.{null_vertex}
use Rattle.mesh.proofs.Lists.{lt_split}
use Rattle.rings.specs.Table.{put, gather, padded}
use Rattle.rings.proofs.Tables.{put_nothing, length_put, put_before, put_within, put_behind, put_more, gather_more}

-- one place
pub put_one : {A : Type 0} (t : List A) (a : ℕ) (v : A) → a < length t → set t a v ≡ put t a (v ∷ [])
unfolding put
put_one t a v h = rw (add-one a) (set_split t a v h)

-- the place right behind a block
pub put_next : (t : List ℕ) (a : ℕ) (b : List ℕ) {now : List ℕ} → now ≡ put t a b → a + length b < length t → (v : ℕ) → set now (a + length b) v ≡ put t a (b ++ (v ∷ []))
put_next t a b q h v = rw q (put_one (put t a b) (a + length b) v (let e = length_put t a b (omega arith) in omega arith) ∙ put_more t a b (omega arith) (v ∷ []) (omega arith))

-- a part of k places that was lent, and comes back written
pub part_put : {A : Type 0} (t : List A) (a k : ℕ) (part : List A) → length part ≡ k → put_mid a k t part ≡ put t a part
unfolding put
part_put t a k part e = rw (drop-drop k a t, e)

-- the same where a loop over the part wrote the same number into each of its places
pub part_filled : (t : List ℕ) (a k x : ℕ) (part : List ℕ) {n : ℕ} → a + k ≤ length t → length part ≡ length (take k (drop a t)) → length (take k (drop a t)) ≤ n
    → ((i : ℕ) → i < n → get_or part i 0 ≡ x) → (j : ℕ) → j ≡ k → put_mid a k t part ≡ put t a (replicate j x)
part_filled t a k x part {n} fits e far same j q =
    let l : length part ≡ j = e ∙ simp (length-take, length-drop) (omega arith) in
    let f : part ≡ replicate j x = ext_get_or 0 part (replicate j x) (l ∙ sym (length-replicate j x)) (λ i h. same i (omega arith) ∙ sym (get_or-replicate j i x 0 (omega arith))) in
    part_put t a k part (l ∙ q) ∙ ap (put t a) f

-- a block over one that is not longer
module _ {ℓ} {A : Type ℓ} (d : A) (t : List A) (a : ℕ) (b c : List A) (over : length b ≤ length c) (fits : a + length c ≤ length t) where
  pub put_over : put (put t a b) a c ≡ put t a c
  put_over =
      let short : a + length b ≤ length t = omega arith in
      let w : List A = put t a b in
      let e : length w ≡ length t = length_put t a b short in
      let f : a + length c ≤ length w = omega arith in
      ext_get_or d (put w a c) (put t a c) (length_put w a c f ∙ e ∙ sym (length_put t a c fits)) (λ i k.
      ⊎_elim
      (λ q. put_before w a c f d i q.1 ∙ put_before t a b short d i q.1 ∙ sym (put_before t a c fits d i q.1))
      (λ q.
      ⊎_elim
      (λ r. let n : a + (i - a) ≡ i = omega arith in subst (λ (j : ℕ). get_or (put w a c) j d ≡ get_or (put t a c) j d) n (put_within w a c f d (i - a) (omega arith) ∙ sym (put_within t a c fits d (i - a) (omega arith))))
      (λ r. put_behind w a c f d i r.1 ∙ put_behind t a b short d i (omega arith) ∙ sym (put_behind t a c fits d i r.1))
      (lt_split i (a + length c)))
      (lt_split i a))

module _ {ℓ} {A : Type ℓ} where
  -- the next row
  pub gather_step : (f : ℕ → List A) (t : List A) (a k at : ℕ) → at ≡ a + length (gather f k) → at + length (f k) ≤ length t → put (put t a (gather f k)) at (f k) ≡ put t a (gather f (k + 1))
  gather_step f t a k at e h =
      ap (λ (j : ℕ). put (put t a (gather f k)) j (f k)) e ∙ gather_more f t a k (omega arith) ∙ ap (λ (j : ℕ). put t a (gather f j)) (sym (add-one k))

-- the next place of a row that is written from the front
pub row_more : (t : List ℕ) (a : ℕ) (row : List ℕ) (k : ℕ) {now : List ℕ} → now ≡ put t a (take k row) → a + length row ≤ length t → k < length row
    → (v : ℕ) → v ≡ get_or row k 0 → set now (a + k) v ≡ put t a (take (k + 1) row)
row_more t a row k {now} q h l v e =
    let w : length (take k row) ≡ k = length-take-le k row (omega arith) in
    let s : set now (a + length (take k row)) v ≡ put t a (take k row ++ (v ∷ [])) = put_next t a (take k row) q (omega arith) v in
    rw (add-one k, take-suc row k 0, ← e) (rw w at s)

-- no place, and the next of the places that get the same number
pub unused_none : (t : List ℕ) (a used x : ℕ) → t ≡ put t (a + used) (replicate (used - used) x)
unused_none t a used x = let e : used - used ≡ 0 = omega arith in rw e (sym (put_nothing t (a + used)))

pub unused_more : (t : List ℕ) (a used k x : ℕ) {now : List ℕ} → now ≡ put t (a + used) (replicate (k - used) x) → used ≤ k → a + k < length t
    → set now (a + k) x ≡ put t (a + used) (replicate (k + 1 - used) x)
unused_more t a used k x {now} q h l =
    let m : ℕ = k - used in
    let w : length (replicate m x) ≡ m = length-replicate m x in
    let i : a + used + length (replicate m x) ≡ a + k = omega arith in
    let n : k + 1 - used ≡ m + 1 = omega arith in
    let s : set now (a + used + length (replicate m x)) x ≡ put t (a + used) (replicate m x ++ (x ∷ [])) = put_next t (a + used) (replicate m x) q (omega arith) x in
    rw (n, ← replicate-append-replicate m 1 x) (rw i at s)

-- a ring with its unused places is a padded row
pub row_padded : (t : List ℕ) (a : ℕ) (ring : List ℕ) → a + 32 ≤ length t → length ring ≤ 32
    → put (put t a ring) (a + length ring) (replicate (32 - length ring) null_vertex) ≡ put t a (padded ring)
unfolding padded
row_padded t a ring h l = put_more t a ring (omega arith) (replicate (32 - length ring) null_vertex) (simp length-replicate (omega arith))

-- the used places of a padded ring are the ring's
pub padded_at : (l : List ℕ) (i : ℕ) → i < length l → get_or (padded l) i 0 ≡ get_or l i 0
unfolding padded
padded_at l i h = get_or-append l _ 0 i h
