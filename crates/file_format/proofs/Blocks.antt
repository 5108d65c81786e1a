-- The laws of `Put`: blocks that are written one after the other are one block. Every function that writes a table cites these alone. Assumes nothing.
use Prim.Native.Nat.{ℕ, ◌+◌, ◌-◌, ◌*◌, ◌/◌, ◌≤◌, ◌<◌}
use mathlib.Core.Path.{◌≡◌, sym, ap, ap₂, subst, ◌∙◌}
use mathlib.Core.List.{List, [], ◌∷◌, ◌++◌, append_assoc, append-nil}
use native.Mathlib.Nat.{add-zero, le_antisymm}
use native.Mathlib.Numerals.{add-one}
use native.Mathlib.Omega.{arith}
use borrow.Rule.Slice.PartMut.{put_mid}
use lib.ListN.{length, take, drop, set, length-append, length-take}
use lib.Seq.{take_at, drop_at, drop-drop}
use Rattle.rings.specs.Table.{put, gather}
use Rattle.rings.proofs.Tables.{put_nothing, length_put, put_more, length_gather}
use Rattle.rings.proofs.Blocks as B
use Rattle.file_format.specs.Blocks.{Put, gather_from}
use Rattle.file_format.proofs.Gathered.{gather_add, from_add, from_start, length_from}

module _ {A : Type 0} where
  -- nothing, and one element
  pub put_none : {l : List A} {i : ℕ} → i ≤ length l → Put l i [] l
  put_none {l} {i} h = record { fits = let e = add-zero i in omega arith; is = sym (put_nothing l i) }

  pub put_one : {l : List A} {i : ℕ} {a : A} → i < length l → Put l i (a ∷ []) (set l i a)
  put_one {l} {i} {a} h = record { fits = omega arith; is = B.put_one l i a h }

  -- a block that is copied over a part
  pub put_copied : {l : List A} {i e : ℕ} (block part : List A) → part ≡ block → e ≡ i + length block → e ≤ length l → Put l i block (put_mid i (e - i) l part)
  unfolding put
  put_copied {l} {i} {e} block part p q h =
      let k : i + (e - i) ≡ i + length block = omega arith in
      record { fits = omega arith; is = ap₂ (λ (x y : List A). take i l ++ (x ++ y)) p (drop-drop (e - i) i l ∙ ap (λ (j : ℕ). drop j l) k) }

  pub put_length : {l m : List A} {i : ℕ} {a : List A} → Put l i a m → length m ≡ length l
  put_length {l} {m} {i} {a} p = ap length p.is ∙ length_put l i a p.fits

  -- a block, and then another from where it ends
  pub then : {l m n : List A} {i k : ℕ} {a b : List A} → Put l i a m → Put m k b n → k ≡ i + length a → Put l i (a ++ b) n
  then {l} {m} {n} {i} {k} {a} {b} p q e =
      let h : i + length a + length b ≤ length l = let f = q.fits in let g = put_length p in omega arith in
      record {
        fits = let g = length-append a b in omega arith;
        is = q.is ∙ ap (λ (x : List A). put x k b) p.is ∙ ap (λ (j : ℕ). put (put l i a) j b) e ∙ put_more l i a p.fits b h;
      }

  -- what stands before a block, and behind a part of it
  front : (l : List A) (i : ℕ) → i ≤ length l → length (take i l) ≡ i
  front l i h = simp length-take (omega arith)

  before : {l m : List A} {i : ℕ} {a : List A} → Put l i a m → take i m ≡ take i l
  unfolding put
  before {l} {m} {i} {a} p = ap (take i) p.is ∙ take_at (take i l) (a ++ drop (i + length a) l) i (front l i (let h = p.fits in omega arith))

  behind : {l m : List A} {i : ℕ} (a b : List A) → Put l i (a ++ b) m → drop (i + length a) m ≡ b ++ drop (i + length (a ++ b)) l
  unfolding put
  behind {l} {m} {i} a b p =
      let r : List A = drop (i + length (a ++ b)) l in
      let e : m ≡ (take i l ++ a) ++ (b ++ r) = p.is ∙ ap (λ (x : List A). take i l ++ x) (append_assoc a b r) ∙ sym (append_assoc (take i l) a (b ++ r)) in
      let g : length (take i l ++ a) ≡ i + length a = length-append (take i l) a ∙ ap (λ (k : ℕ). k + length a) (front l i (let h = p.fits in omega arith)) in
      ap (drop (i + length a)) e ∙ drop_at (take i l ++ a) (b ++ r) (i + length a) g

  behind_whole : {l m : List A} {i : ℕ} {a : List A} → Put l i a m → drop (i + length a) m ≡ drop (i + length a) l
  behind_whole {l} {m} {i} {a} p = behind a [] (subst (λ (x : List A). Put l i x m) (sym (append-nil a)) p) ∙ ap (λ (x : List A). drop (i + length x) l) (append-nil a)

  -- the front of a block written anew
  pub renewed : {l m n : List A} {i : ℕ} (a b c : List A) → Put l i (a ++ b) m → Put m i c n → length c ≡ length a → Put l i (c ++ b) n
  unfolding put
  renewed {l} {m} {n} {i} a b c p q e =
      let f = length-append a b in
      let g = length-append c b in
      let h : length (a ++ b) ≡ length (c ++ b) = omega arith in
      record {
        fits = let w = p.fits in omega arith;
        is = q.is
            ∙ ap₂ (λ (x y : List A). x ++ (c ++ y)) (before p) (ap (λ (k : ℕ). drop (i + k) m) e ∙ behind a b p ∙ ap (λ (k : ℕ). b ++ drop (i + k) l) h)
            ∙ ap (λ (x : List A). take i l ++ x) (sym (append_assoc c b (drop (i + length (c ++ b)) l)));
      }

  -- a block that begins with the end of the one before
  pub overlapping : {l m n : List A} {i k : ℕ} (a b c : List A) → Put l i (a ++ b) m → Put m k (b ++ c) n → k ≡ i + length a → Put l i (a ++ (b ++ c)) n
  unfolding put
  overlapping {l} {m} {n} {i} {k} a b c p q e =
      let f = length-append a b in
      let g = length-append b c in
      let w = length-append a (b ++ c) in
      let j : length (take i l ++ a) ≡ i + length a = length-append (take i l) a ∙ ap (λ (t : ℕ). t + length a) (front l i (let h = p.fits in omega arith)) in
      let r : List A = drop (i + length (a ++ b)) l in
      let z : m ≡ (take i l ++ a) ++ (b ++ r) = p.is ∙ ap (λ (t : List A). take i l ++ t) (append_assoc a b r) ∙ sym (append_assoc (take i l) a (b ++ r)) in
      let x : take k m ≡ take i l ++ a = ap₂ (λ (t : ℕ) (u : List A). take t u) e z ∙ take_at (take i l ++ a) (b ++ r) (i + length a) j in
      let y : drop (k + length (b ++ c)) m ≡ drop (i + length (a ++ (b ++ c))) l =
      ap (λ (t : ℕ). drop t m) (let h : k + length (b ++ c) ≡ i + length (a ++ b) + length c = omega arith in h)
      ∙ sym (drop-drop (length c) (i + length (a ++ b)) m) ∙ ap (drop (length c)) (behind_whole p)
      ∙ drop-drop (length c) (i + length (a ++ b)) l
      ∙ ap (λ (t : ℕ). drop t l) (let h : i + length (a ++ b) + length c ≡ i + length (a ++ (b ++ c)) = omega arith in h) in
      record {
        fits = let h = q.fits in let j = put_length p in omega arith;
        is =
            q.is
            ∙ ap₂ (λ (s t : List A). s ++ ((b ++ c) ++ t)) x y
            ∙ append_assoc (take i l) a ((b ++ c) ++ drop (i + length (a ++ (b ++ c))) l)
            ∙ ap (λ (t : List A). take i l ++ t) (sym (append_assoc a (b ++ c) (drop (i + length (a ++ (b ++ c))) l)));
      }

  -- the block under another name, or at an equal place
  pub put_is : {l m : List A} {i : ℕ} {a b : List A} → a ≡ b → Put l i a m → Put l i b m
  put_is {l} {m} {i} e p = subst (λ (x : List A). Put l i x m) e p

  -- ---- rows

  pub rows_none : {l : List A} {i : ℕ} (f : ℕ → List A) → i ≤ length l → Put l i (gather f 0) l
  rows_none f h = put_none h

  -- one turn more of a loop that writes row after row
  pub rows_next : {l m n : List A} {i k : ℕ} (f : ℕ → List A) (j : ℕ) → Put l i (gather f j) m → Put m k (f j) n → k ≡ i + length (gather f j) → Put l i (gather f (j + 1)) n
  rows_next f j p q e = rw add-one (then p q e)

  -- the last turn is done
  pub rows_all : {l n : List A} {i : ℕ} (f : ℕ → List A) (j k : ℕ) → Put l i (gather f j) n → j ≤ k → k ≤ j → Put l i (gather f k) n
  rows_all {l} {n} {i} f j k p a b = subst (λ (x : ℕ). Put l i (gather f x) n) (le_antisymm a b) p

  -- ---- rows in parts: n rows from the e-th on

  pub from_none : {l : List A} {i : ℕ} (f : ℕ → List A) (e : ℕ) → i ≤ length l → Put l i (gather_from f e 0) l
  unfolding gather_from
  from_none f e h = put_none h

  pub from_next : {l m n : List A} {i k : ℕ} (f : ℕ → List A) (e j c : ℕ) → Put l i (gather_from f e j) m → Put m k (gather_from f (e + j) c) n → k ≡ i + length (gather_from f e j) → Put l i (gather_from f e (j + c)) n
  from_next f e j c p q h = put_is (sym (from_add f e j c)) (then p q h)

  -- a last part that may begin before the rows that are there end
  rows_last : {l m n : List A} {i k : ℕ} (f : ℕ → List A) (e d c : ℕ) → Put l i (gather f (e + d)) m → Put m k (gather_from f e (d + c)) n → k ≡ i + length (gather f e) → Put l i (gather f (e + (d + c))) n
  rows_last f e d c p q h =
      put_is (ap (λ (x : List A). gather f e ++ x) (sym (from_add f e d c)) ∙ sym (gather_add f e (d + c)))
      (overlapping (gather f e) (gather_from f e d) (gather_from f (e + d) c) (put_is (gather_add f e d) p) (put_is (from_add f e d c) q) h)

  -- at least four rows of one length, by fours: the first, whole ones behind it, and the last, which may overlap them
  module _ (f : ℕ → List A) (w : ℕ) (wide : (i : ℕ) → length (f i) ≡ w) where
    -- one turn more of a loop that writes whole fours behind the first four, and its last turn
    pub fours_next : {l m n : List A} {i k : ℕ} (j : ℕ) → 4 ≤ j → Put l i (gather_from f 4 (j - 4)) m → Put m k (gather_from f j 4) n → k ≡ i + (j - 4) * w → Put l i (gather_from f 4 (j + 4 - 4)) n
    fours_next {l} {m} {n} {i} {k} j h p q e =
        let here : j ≡ 4 + (j - 4) = omega arith in
        let more : j - 4 + 4 ≡ j + 4 - 4 = omega arith in
        put_is (ap (gather_from f 4) more)
        (from_next f 4 (j - 4) 4 p (subst (λ (x : ℕ). Put m k (gather_from f x 4) n) here q) (e ∙ ap (λ (x : ℕ). i + x) (sym (length_from f w wide 4 (j - 4)))))

    pub fours_last : {l m n : List A} {i k : ℕ} (j c : ℕ) → 4 ≤ j → Put l i (gather_from f 4 (j - 4)) m → Put m k (gather_from f j 4) n → k ≡ i + (j - 4) * w → j + 4 - 4 ≡ c → Put l i (gather_from f 4 c) n
    fours_last j c h p q e r = put_is (ap (gather_from f 4) r) (fours_next j h p q e)

    pub by_fours : {l m₁ m₂ m₃ : List A} {i k₁ k₂ k₃ : ℕ} (n : ℕ) → 4 ≤ n → Put l k₁ (gather_from f 0 4) m₁ → k₁ ≡ i → Put m₁ k₂ (gather_from f 4 ((n - 4) / 4 * 4)) m₂ → k₂ ≡ i + 4 * w
        → Put m₂ k₃ (gather_from f (n - 4) 4) m₃ → k₃ ≡ i + (n - 4) * w → Put l i (gather f n) m₃
    by_fours {l} {m₁} {m₂} {m₃} {i} {k₁} {k₂} {k₃} n h p a q b r c =
        let d = (n - 4) / 4 * 4 in
        let e = n - 4 in
        let g = 4 + d - e in
        let first : Put l i (gather f 4) m₁ = subst (λ (k : ℕ). Put l k (gather f 4) m₁) a (put_is (from_start f 4) p) in
        let both : Put l i (gather f (4 + d)) m₂ = put_is (sym (gather_add f 4 d)) (then first q (b ∙ ap (λ (k : ℕ). i + k) (sym (length_gather f w wide 4)))) in
        let x : 4 + d ≡ e + g = omega arith in
        let y : 4 ≡ g + (4 - g) = omega arith in
        let z : e + (g + (4 - g)) ≡ n = omega arith in
        subst (λ (k : ℕ). Put l i (gather f k) m₃) z
        (rows_last f e g (4 - g) (subst (λ (k : ℕ). Put l i (gather f k) m₂) x both) (subst (λ (k : ℕ). Put m₂ k₃ (gather_from f e k) m₃) y r) (c ∙ ap (λ (k : ℕ). i + k) (sym (length_gather f w wide e))))
