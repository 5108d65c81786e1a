-- One face of a text: where its numbers stand, and what the rows keep once it is noted. Assumes nothing.
use mathlib.Core.Path.{◌≡◌, refl, sym, ap, ◌∙◌, subst}
use mathlib.Core.Bool.{Bool, true, false, cond, ◌&&◌}
use mathlib.Core.List.{List, [], ◌∷◌, ◌++◌, append-nil}
use mathlib.Core.Logic.{◌⊎◌, inl, inr, ⊎_elim, ◌≢◌}
use Prim.Native.Nat.{ℕ, zero, suc, ◌+◌, ◌≤◌, ◌<◌}
use native.Mathlib.Numerals.{add-one}
use native.Mathlib.Omega.{arith}
use lib.Dec.{eqb}
use lib.ListN.{length, length-append}
use borrow.Author.Tests.{eqb-true, not-true, eq-eqb, ne_eqb}
use Rattle.mesh.proofs.Lists.{eq_split}
use Rattle.off_numbers.specs.Text.{byte_at, value_at, after_at, is_number}
use Rattle.off_numbers.specs.Scanned.{NumberThere}
use Rattle.off_numbers.proofs.Scanning.{number_within, byte_within, and_true}
use Rattle.off_rings.specs.Faces.{Face, corner, before, behind}
use Rattle.off_rings.specs.Fans.{befores, behinds}
use Rattle.off_rings.proofs.Pairs.{Fine, fine_of, at_a, at_b, at_c}
use Rattle.off_text.specs.Layout.{text_count, is_corners, is_face, corners_at, after_face, face_line_at, text_face}
use Rattle.off_fans.specs.Rows.{Fans, Room, Low, added_at, NotedIn}
use Rattle.off_fans.proofs.Noting.{fans_same}
use Rattle.off_gather.specs.Gathering.{FaceLines, FaceLine, SameRoom, Cornered, Gathered}

-- where the three numbers of a face stand
pub record Standing (s : List ℕ) (at : ℕ) : Type 0 where
  pub begins : at + 2 ≤ length s
  pub first : NumberThere s (at + 2)
  pub second : NumberThere s (after_at s (at + 2))
  pub third : NumberThere s (after_at s (after_at s (at + 2)))
  pub fine : Fine (text_count s) (corners_at s at)

pub standing : (s : List ℕ) (at : ℕ) → is_face s at ≡ true → Standing s at
unfolding is_face is_corners
standing s at e =
    let p = and_true (is_corners s at) _ e in
    let h = and_true (eqb (byte_at s at) 51 && eqb (byte_at s (at + 1)) 32) _ p.0 in
    let k = and_true (eqb (byte_at s at) 51) (eqb (byte_at s (at + 1)) 32) h.0 in
    let i = and_true (is_number s (at + 2) 4294967296 32) _ h.1 in
    let j = and_true (is_number s (after_at s (at + 2)) 4294967296 32) _ i.1 in
    record {
      begins = omega (arith, byte_within s (at + 1) 32 (eqb-true _ _ k.1) (omega arith));
      first = record { bound = 4294967296; last = 32; positive = omega arith; low = omega arith; good = i.0 };
      second = record { bound = 4294967296; last = 32; positive = omega arith; low = omega arith; good = j.0 };
      third = record { bound = 4294967296; last = 10; positive = omega arith; low = omega arith; good = j.1 };
      fine = fine_of (text_count s) (corners_at s at) (not-true _ p.1);
    }

-- from three numbers read one after the other to the face
pub cornered : (s : List ℕ) (at a p b q c r : ℕ) → is_face s at ≡ true → a ≡ value_at s (at + 2) → p ≡ after_at s (at + 2)
    → b ≡ value_at s p → q ≡ after_at s p → c ≡ value_at s q → r ≡ after_at s q → Cornered s at a b c r
unfolding corners_at after_face
cornered s at a p b q c r e a_is p_is b_is q_is c_is r-is =
    let k = standing s at e in
    let q' : q ≡ after_at s (after_at s (at + 2)) = q_is ∙ ap (after_at s) p_is in
    let b' : b ≡ value_at s (after_at s (at + 2)) = b_is ∙ ap (value_at s) p_is in
    let c' : c ≡ value_at s (after_at s (after_at s (at + 2))) = c_is ∙ ap (value_at s) q' in
    let r' : r ≡ after_at s (after_at s (after_at s (at + 2))) = r-is ∙ ap (after_at s) q' in
    record {
      a_is = a_is;
      b_is = b';
      c_is = c';
      next_is = r';
      within = rw r' (number_within s (after_at s (after_at s (at + 2))) k.third.bound k.third.last k.third.good k.third.positive).0;
      a_small = rw a_is k.fine.a<;
      b_small = rw b' k.fine.b<;
      c_small = rw c' k.fine.c<;
    }

-- the second and the third number stand where they are read
pub then_first : (s : List ℕ) (at p : ℕ) → is_face s at ≡ true → p ≡ after_at s (at + 2) → NumberThere s p
then_first s at p e q = rw q (standing s at e).second

pub then_second : (s : List ℕ) (at p q : ℕ) → is_face s at ≡ true → p ≡ after_at s (at + 2) → q ≡ after_at s p → NumberThere s q
then_second s at p q e f g = rw (g, f) (standing s at e).third

-- ---- one face more

-- the three entries of a face, noted one after the other
module _ (first : ℕ) (f : Face) (ab : f.a ≢ f.b) (bc : f.b ≢ f.c) (ca : f.c ≢ f.a) where
  abbrev three : (ℕ → List ℕ) → ℕ → ℕ → ℕ → ℕ → List ℕ
  three A x y z j = added_at first (added_at first (added_at first A f.b x) f.c y) f.a z j

  -- are one entry more for a corner, and none for another vertex
  three_is : (A : ℕ → List ℕ) (x y z j e : ℕ) → ((first + j ≡ f.a) → e ≡ z) → ((first + j ≡ f.b) → e ≡ x) → ((first + j ≡ f.c) → e ≡ y)
      → three A x y z j ≡ A j ++ cond (corner (first + j) f) (e ∷ []) []
  unfolding corner
  three_is A x y z j e ea eb ec =
      ⊎_elim
      (λ p.
      rw (eq-eqb (first + j) f.a p, ne_eqb (first + j) f.b (λ q. ab (sym p ∙ q)), ne_eqb (first + j) f.c (λ q. ca (sym q ∙ p)), ea p))
      (λ p.
      ⊎_elim
      (λ q. rw (ne_eqb (first + j) f.a p, eq-eqb (first + j) f.b q, ne_eqb (first + j) f.c (λ r. bc (sym q ∙ r)), eb q))
      (λ q.
      ⊎_elim
      (λ r. rw (ne_eqb (first + j) f.a p, ne_eqb (first + j) f.b q, eq-eqb (first + j) f.c r, ec r))
      (λ r. rw (ne_eqb (first + j) f.a p, ne_eqb (first + j) f.b q, ne_eqb (first + j) f.c r) (sym (append-nil (A j))))
      (dec (first + j) f.c))
      (dec (first + j) f.b))
      (dec (first + j) f.a)
    where
      dec : (a b : ℕ) → (a ≡ b) ⊎ (a ≢ b)
      dec a b = ⊎_elim (λ p. inl p.1) (λ p. inr p.1) (eq_split a b)

  three_before : (A : ℕ → List ℕ) (j : ℕ) → three A f.a f.b f.c j ≡ A j ++ cond (corner (first + j) f) (before (first + j) f ∷ []) []
  three_before A j =
      three_is A f.a f.b f.c j (before (first + j) f)
      (λ e. (at_a f ab bc ca (first + j) e).from)
      (λ e. (at_b f ab bc ca (first + j) e).from)
      (λ e. (at_c f ab bc ca (first + j) e).from)

  three_behind : (A : ℕ → List ℕ) (j : ℕ) → three A f.c f.a f.b j ≡ A j ++ cond (corner (first + j) f) (behind (first + j) f ∷ []) []
  three_behind A j =
      three_is A f.c f.a f.b j (behind (first + j) f)
      (λ e. (at_a f ab bc ca (first + j) e).to)
      (λ e. (at_b f ab bc ca (first + j) e).to)
      (λ e. (at_c f ab bc ca (first + j) e).to)

-- ---- the tables

module _ {first rows width x v w : ℕ} {c f t c' f' t' : List ℕ} (k : NotedIn first rows width x v w c f t c' f' t') where
  noted_is : (x' v' w' : ℕ) → x ≡ x' → v ≡ v' → w ≡ w' → NotedIn first rows width x' v' w' c f t c' f' t'
  noted_is x' v' w' p q r =
      subst (λ y. NotedIn first rows width y v' w' c f t c' f' t') p
      (subst (λ y. NotedIn first rows width x y w' c f t c' f' t') q (subst (λ y. NotedIn first rows width x v y c f t c' f' t') r k))

befores_short : (face : ℕ → Face) (v k : ℕ) → length (befores face v k) ≤ k
unfolding befores
befores_short face v zero = omega arith
befores_short face v (suc k) =
    let last : List ℕ = cond (corner v (face k)) (before v (face k) ∷ []) [] in
    omega (arith, befores_short face v k, length-append (befores face v k) last, one (corner v (face k)) (before v (face k)))
  where
    one : (t : Bool) (a : ℕ) → length (cond t (a ∷ []) []) ≤ 1
    one true a = omega arith
    one false a = omega arith

added_short : (first : ℕ) (A : ℕ → List ℕ) (v x j : ℕ) → length (added_at first A v x j) ≤ length (A j) + 1
added_short first A v x j = go (eqb (first + j) v)
  where
    go : (t : Bool) → length (cond t (A j ++ (x ∷ [])) (A j)) ≤ length (A j) + 1
    go true = omega (arith, length-append (A j) (x ∷ []))
    go false = omega arith

low_of : {rows width : ℕ} {c f t : List ℕ} (A B : ℕ → List ℕ) (most : ℕ) → Fans rows width c f t A B
    → ((j : ℕ) → length (A j) ≤ most) → most < 18446744073709551615 → Low rows c
low_of A B most k h g = record { low = λ j l. omega (arith, (k.from j l).count, h j) }

-- what comes before vertex first + j in the first i faces, and what comes behind it
module _ (s : List ℕ) (first i : ℕ) where
  abbrev earlier : ℕ → List ℕ
  earlier j = befores (text_face s) (first + j) i

  abbrev later : ℕ → List ℕ
  later j = behinds (text_face s) (first + j) i

-- the counts stay low while a face is noted
module _ (s : List ℕ) (first rows width i : ℕ) (i< : i < 4294967296) where
  short : (j : ℕ) → length (earlier s first i j) ≤ i
  short j = befores_short (text_face s) (first + j) i

  module _ {c f t : List ℕ} (g : Gathered s first rows width i c f t) where
    pub low_none : Low rows c
    low_none = low_of (earlier s first i) (later s first i) i g.fans short (omega arith)

    module _ {x v w : ℕ} {c₁ f₁ t₁ : List ℕ} (n₁ : NotedIn first rows width x v w c f t c₁ f₁ t₁) where
      abbrev earlier₁ : ℕ → List ℕ
      earlier₁ = added_at first (earlier s first i) v x

      abbrev later₁ : ℕ → List ℕ
      later₁ = added_at first (later s first i) v w

      short₁ : (j : ℕ) → length (earlier₁ j) ≤ i + 1
      short₁ j = omega (arith, added_short first (earlier s first i) v x j, short j)

      fans₁ : Fans rows width c₁ f₁ t₁ earlier₁ later₁
      fans₁ = n₁.more (earlier s first i) (later s first i) g.fans

      pub low_one : Low rows c₁
      low_one = low_of earlier₁ later₁ (i + 1) fans₁ short₁ (omega arith)

      module _ {x' v' w' : ℕ} {c₂ f₂ t₂ : List ℕ} (n₂ : NotedIn first rows width x' v' w' c₁ f₁ t₁ c₂ f₂ t₂) where
        pub low_two : Low rows c₂
        low_two =
            low_of (added_at first earlier₁ v' x') (added_at first later₁ v' w') (i + 2) (n₂.more earlier₁ later₁ fans₁)
            (λ j. omega (arith, added_short first earlier₁ v' x' j, short₁ j))
            (omega arith)

-- a face more is gathered
pub gathered_more : (s : List ℕ) (first rows width i at a b c next : ℕ) {c₀ f₀ t₀ c₁ f₁ t₁ c₂ f₂ t₂ c₃ f₃ t₃ : List ℕ}
    → at ≡ face_line_at s i → is_face s at ≡ true → Cornered s at a b c next
    → Gathered s first rows width i c₀ f₀ t₀ → NotedIn first rows width a b c c₀ f₀ t₀ c₁ f₁ t₁
    → NotedIn first rows width b c a c₁ f₁ t₁ c₂ f₂ t₂ → NotedIn first rows width c a b c₂ f₂ t₂ c₃ f₃ t₃
    → (next ≡ face_line_at s (i + 1)) × Gathered s first rows width (i + 1) c₃ f₃ t₃
unfolding face_line_at befores behinds text_face
gathered_more s first rows width i at a b c next e good k g n₁ n₂ n₃ =
    let f : Face = corners_at s (face_line_at s i) in
    let fine = (standing s (face_line_at s i) (subst (λ p. is_face s p ≡ true) e good)).fine in
    let a' : a ≡ f.a = k.a_is ∙ ap (λ p. (corners_at s p).a) e in
    let b' : b ≡ f.b = k.b_is ∙ ap (λ p. (corners_at s p).b) e in
    let c' : c ≡ f.c = k.c_is ∙ ap (λ p. (corners_at s p).c) e in
    let m₁ = (noted_is n₁ f.a f.b f.c a' b' c').more (earlier s first i) (later s first i) g.fans in
    let m₂ = (noted_is n₂ f.b f.c f.a b' c' a').more _ _ m₁ in
    let m₃ = (noted_is n₃ f.c f.a f.b c' a' b').more _ _ m₂ in
    rw (add-one i) (
      k.next_is ∙ ap (after_face s) e,
      record {
        fans = fans_same _ _ (earlier s first (suc i)) (later s first (suc i))
            (λ j h. three_before first f fine.ab fine.bc fine.ca (earlier s first i) j)
            (λ j h. three_behind first f fine.ab fine.bc fine.ca (later s first i) j)
            m₃;
      },
    )

-- ---- what the functions know

pub face_line_lem : {s : List ℕ} {m from i at : ℕ} → FaceLines s m from → i < m → at ≡ face_line_at s i → FaceLine s i at
face_line_lem {s} {m} {from} {i} {at} k h e = record {
  few = k.few;
  number = omega (arith, k.number);
  begins = e;
  good = subst (λ p. is_face s p ≡ true) (sym e) (k.good i h);
}

pub room_same : {rows width : ℕ} {c f t c' f' t' : List ℕ} → SameRoom c f t c' f' t' → Room rows width c f t → Room rows width c' f' t'
room_same k r = record {
  counts_long = omega (arith, k.counts_same, r.counts_long);
  froms_long = omega (arith, k.froms_same, r.froms_long);
  tos_long = omega (arith, k.tos_same, r.tos_long);
}

pub same_none : {c f t : List ℕ} → SameRoom c f t c f t
same_none = record { counts_same = refl; froms_same = refl; tos_same = refl }

pub same_more : {c f t c' f' t' c'' f'' t'' : List ℕ} → SameRoom c f t c' f' t' → SameRoom c' f' t' c'' f'' t'' → SameRoom c f t c'' f'' t''
same_more a b = record { counts_same = b.counts_same ∙ a.counts_same; froms_same = b.froms_same ∙ a.froms_same; tos_same = b.tos_same ∙ a.tos_same }
