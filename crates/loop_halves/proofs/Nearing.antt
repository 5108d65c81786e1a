-- Tables that come nearer to a target: by one place, by a block, by several steps, until they are the target. Assumes nothing.
use Prim.Native.Nat.{ℕ, ◌+◌, ◌-◌, ◌≤◌, ◌<◌}
use mathlib.Core.Path.{◌≡◌, refl, sym, ap, subst, ◌∙◌}
use mathlib.Core.List.{List}
use mathlib.Core.Logic.{◌⊎◌, ⊎_elim}
use native.Mathlib.Omega.{arith}
use lib.ListN.{length, get_or, set, replicate, length-set, length-replicate, get_or-replicate}
use lib.Seq.{get_or-set_same, get_or-set_other, ext_get_or}
use Rattle.mesh.specs.Limits.{null_vertex}
use Rattle.mesh.proofs.Lists.{lt_split}
use Rattle.rings.specs.Table.{put}
use Rattle.rings.proofs.Tables.{length_put, put_before, put_within, put_behind}
use Rattle.loop_halves.specs.Nearer.{Nearer}

module _ {ℓ} {A : Type ℓ} (d : A) (target : List A) where
  pub nearer_none : (t : List A) → Nearer d target t t
  nearer_none t = record { long = refl; keeps = λ a h. h }

  pub nearer_then : {a b c : List A} → Nearer d target a b → Nearer d target b c → Nearer d target a c
  nearer_then f g = record { long = g.long ∙ f.long; keeps = λ a h. g.keeps a (f.keeps a h) }

  -- one place
  module _ (t : List A) (a : ℕ) (v : A) (l : a < length t) (e : v ≡ get_or target a d) where
    pub right_set : get_or (set t a v) a d ≡ get_or target a d
    right_set = get_or-set_same t a v d l ∙ e

    pub nearer_set : Nearer d target t (set t a v)
    nearer_set = record {
      long = length-set t a v;
      keeps = λ x h.
          ⊎_elim
          (λ q. get_or-set_other t a x v d (omega arith) ∙ h)
          (λ q.
          ⊎_elim
          (λ r. get_or-set_other t a x v d (omega arith) ∙ h)
          (λ r. let i : a ≡ x = omega arith in subst (λ (y : ℕ). get_or (set t a v) y d ≡ get_or target y d) i right_set)
          (lt_split a x))
          (lt_split x a);
    }

  -- a block
  module _ (t : List A) (a : ℕ) (b : List A) (l : a + length b ≤ length t) (e : (i : ℕ) → i < length b → get_or b i d ≡ get_or target (a + i) d) where
    pub right_put : (i : ℕ) → i < length b → get_or (put t a b) (a + i) d ≡ get_or target (a + i) d
    right_put i h = put_within t a b l d i h ∙ e i h

    pub nearer_put : Nearer d target t (put t a b)
    nearer_put = record {
      long = length_put t a b l;
      keeps = λ x h.
          ⊎_elim
          (λ q. put_before t a b l d x q.1 ∙ h)
          (λ q.
          ⊎_elim
          (λ r. let i : a + (x - a) ≡ x = omega arith in subst (λ (y : ℕ). get_or (put t a b) y d ≡ get_or target y d) i (right_put (x - a) (omega arith)))
          (λ r. put_behind t a b l d x r.1 ∙ h)
          (lt_split x (a + length b)))
          (lt_split x a);
    }

  pub reached : (t : List A) → length t ≡ length target → ((a : ℕ) → a < length t → get_or t a d ≡ get_or target a d) → t ≡ target
  reached t e h = ext_get_or d t target e h

-- ---- half a row of a new vertex

-- from its lesser end: places 0, 1, 5 and the unused ones
pub record LowHalf (target t new : List ℕ) (a : ℕ) : Type 0 where
  pub nearer : Nearer 0 target t new
  pub right : (k : ℕ) → k < 32 → (k < 2) ⊎ (4 < k) → get_or new (a + k) 0 ≡ get_or target (a + k) 0

pub record HighHalf (target t new : List ℕ) (a : ℕ) : Type 0 where
  pub nearer : Nearer 0 target t new
  pub right : (k : ℕ) → 1 < k → k < 5 → get_or new (a + k) 0 ≡ get_or target (a + k) 0

module _ (target t : List ℕ) (a x y z : ℕ) (fits : a + 32 ≤ length t) where
  pub low_half : x ≡ get_or target a 0 → y ≡ get_or target (a + 1) 0 → z ≡ get_or target (a + 5) 0 → ((k : ℕ) → 5 < k → k < 32 → get_or target (a + k) 0 ≡ null_vertex)
      → {new : List ℕ} → new ≡ put (set (set (set t a x) (a + 1) y) (a + 5) z) (a + 6) (replicate 26 null_vertex) → LowHalf target t new a
  low_half ex ey ez eu {new} q =
      let U : List ℕ = replicate 26 null_vertex in
      let t₁ : List ℕ = set t a x in
      let t₂ : List ℕ = set t₁ (a + 1) y in
      let t₃ : List ℕ = set t₂ (a + 5) z in
      let l₁ : length t₁ ≡ length t = length-set t a x in
      let l₂ : length t₂ ≡ length t₁ = length-set t₁ (a + 1) y in
      let l₃ : length t₃ ≡ length t₂ = length-set t₂ (a + 5) z in
      let w : length U ≡ 26 = length-replicate {A = ℕ} 26 null_vertex in
      let f : (i : ℕ) → i < length U → get_or U i 0 ≡ get_or target (a + 6 + i) 0 =
      λ i h. let g : a + 6 + i ≡ a + (6 + i) = omega arith in get_or-replicate {A = ℕ} 26 i null_vertex 0 (omega arith) ∙ sym (ap (λ (k : ℕ). get_or target k 0) g ∙ eu (6 + i) (omega arith) (omega arith)) in
      let n₁ = nearer_set 0 target t a x (omega arith) ex in
      let n₂ = nearer_set 0 target t₁ (a + 1) y (omega arith) ey in
      let n₃ = nearer_set 0 target t₂ (a + 5) z (omega arith) ez in
      let n₄ = nearer_put 0 target t₃ (a + 6) U (omega arith) f in
      let r₁ = right_set 0 target t a x (omega arith) ex in
      let r₂ = right_set 0 target t₁ (a + 1) y (omega arith) ey in
      let r₃ = right_set 0 target t₂ (a + 5) z (omega arith) ez in
      let at : (k j : ℕ) → j ≡ k → get_or (put t₃ (a + 6) U) (a + j) 0 ≡ get_or target (a + j) 0 → get_or (put t₃ (a + 6) U) (a + k) 0 ≡ get_or target (a + k) 0 =
      λ k j e h. subst (λ (i : ℕ). get_or (put t₃ (a + 6) U) (a + i) 0 ≡ get_or target (a + i) 0) e h in
      let zero-at : (k : ℕ) → k < 1 → a ≡ a + k = λ k h. omega arith in
      rw q (record {
        nearer = nearer_then 0 target n₁ (nearer_then 0 target n₂ (nearer_then 0 target n₃ n₄));
        right = λ k h s.
            ⊎_elim
            (λ u. subst (λ (i : ℕ). get_or (put t₃ (a + 6) U) i 0 ≡ get_or target i 0) (zero-at k u.1) (n₄.keeps a (n₃.keeps a (n₂.keeps a r₁))))
            (λ u.
            ⊎_elim
            (λ v. at k 1 (omega arith) (n₄.keeps (a + 1) (n₃.keeps (a + 1) r₂)))
            (λ v.
            ⊎_elim
            (λ w. at k 5 (⊎_elim (λ (b : k < 2). absurd (omega arith)) (λ (b : 4 < k). omega arith) s) (n₄.keeps (a + 5) r₃))
            (λ w. let g : a + 6 + (k - 6) ≡ a + k = omega arith in subst (λ (i : ℕ). get_or (put t₃ (a + 6) U) i 0 ≡ get_or target i 0) g (right_put 0 target t₃ (a + 6) U (omega arith) f (k - 6) (omega arith)))
            (lt_split k 6))
            (lt_split k 2))
            (lt_split k 1);
      })

  -- from its greater end: places 3, 4 and 2
  pub high_half : x ≡ get_or target (a + 3) 0 → y ≡ get_or target (a + 4) 0 → z ≡ get_or target (a + 2) 0
      → {new : List ℕ} → new ≡ set (set (set t (a + 3) x) (a + 4) y) (a + 2) z → HighHalf target t new a
  high_half ex ey ez {new} q =
      let t₁ : List ℕ = set t (a + 3) x in
      let t₂ : List ℕ = set t₁ (a + 4) y in
      let l₁ : length t₁ ≡ length t = length-set t (a + 3) x in
      let l₂ : length t₂ ≡ length t₁ = length-set t₁ (a + 4) y in
      let n₁ = nearer_set 0 target t (a + 3) x (omega arith) ex in
      let n₂ = nearer_set 0 target t₁ (a + 4) y (omega arith) ey in
      let n₃ = nearer_set 0 target t₂ (a + 2) z (omega arith) ez in
      let r₁ = right_set 0 target t (a + 3) x (omega arith) ex in
      let r₂ = right_set 0 target t₁ (a + 4) y (omega arith) ey in
      let r₃ = right_set 0 target t₂ (a + 2) z (omega arith) ez in
      let at : (k j : ℕ) → j ≡ k → get_or (set t₂ (a + 2) z) (a + j) 0 ≡ get_or target (a + j) 0 → get_or (set t₂ (a + 2) z) (a + k) 0 ≡ get_or target (a + k) 0 =
      λ k j e h. subst (λ (i : ℕ). get_or (set t₂ (a + 2) z) (a + i) 0 ≡ get_or target (a + i) 0) e h in
      rw q (record {
        nearer = nearer_then 0 target n₁ (nearer_then 0 target n₂ n₃);
        right = λ k h g.
            ⊎_elim
            (λ u. at k 2 (omega arith) r₃)
            (λ u.
            ⊎_elim
            (λ v. at k 3 (omega arith) (n₃.keeps (a + 3) (n₂.keeps (a + 3) r₁)))
            (λ v. at k 4 (omega arith) (n₃.keeps (a + 4) r₂))
            (lt_split k 4))
            (lt_split k 3);
      })
