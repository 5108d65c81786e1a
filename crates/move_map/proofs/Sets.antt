-- Laws of the map as a set. Assumes nothing.
use mathlib.Core.Bool.{Bool, true, false}
use mathlib.Core.List.{List}
use mathlib.Core.Logic.{⊎_elim}
use mathlib.Core.Path.{◌≡◌, refl, sym, ap, ap₂, ◌∙◌, fun_ext}
use Prim.Native.Nat.{ℕ, zero, suc, ◌+◌, ◌-◌, ◌*◌, ◌/◌, ◌%◌, ◌^◌, ◌≤◌, ◌<◌}
use native.Mathlib.Nat.{mod-eq_of_lt, one-mul, mul-one, add-zero}
use native.Mathlib.Numerals.{add-one}
use native.Mathlib.Omega.{arith}
use lib.ListN.{length, get_or, take, drop, set, replicate, length-replicate, get_or-replicate, get_or-append}
use lib.Seq.{get_or-set_same, get_or-set_other, ext_get_or, get_or-append-add, get_or-drop, length-take-le}
use lib.Pow.{pow-lt, shr-shr}
use lib.Bits.{bit_or}
use lib.Count.{ones, under, count_trailing_zeros}
use borrow.Author.Tests.{lt-ltb, le-ltb, eq-eqb, ne_eqb}
use lib.Dec.{ltb}
use mathlib.Core.Bool.{◌&&◌}
use mathlib.Core.List.{[], ◌∷◌, ◌++◌}
use Rattle.mesh.specs.Search.{bit, sum}
use Rattle.mesh.proofs.Lists.{eq_split, lt_split, sum_same, sum_zero}
use Rattle.rings.specs.Table.{put}
use Rattle.rings.proofs.Tables.{length_gather, gather_at, gather_same, length_put, put_within, put_behind}
use Rattle.move_map.specs.Map.{bit_of, marked, word_count, word, map_words, members, ones_in, including, emptied, NoneFrom, Words}
use Rattle.move_map.proofs.Bits.{bit_low, bit_suc, sum_lt, bit_sum, bits_ext, members_same, members_add, ones_bits, bit_none, bit_set_here, bit_set_else}

-- the vertex of a bit
pub marked_at : (m : List ℕ) (w k : ℕ) → k < 32 → marked m (w * 32 + k) ≡ bit_of (get_or m w 0) k
unfolding marked
marked_at m w k p =
    let d : (w * 32 + k) / 32 ≡ w = omega arith in
    let r : (w * 32 + k) % 32 ≡ k = omega arith in
    rw (d, r)

pub marked_of : (m : List ℕ) (i : ℕ) → marked m i ≡ bit_of (get_or m (i / 32) 0) (i % 32)
unfolding marked
marked_of m i = refl

-- ---- the bits below a word's lowest one

trailing_clear : (k w j : ℕ) → j < count_trailing_zeros k w → bit_of w j ≡ false
unfolding count_trailing_zeros
trailing_clear zero w j h = absurd (omega arith)
trailing_clear (suc k) w j h = go (w % 2) refl j h (trailing_clear k (w / 2))
  where
    go : (d : ℕ) → w % 2 ≡ d → (j : ℕ) → j < under d (count_trailing_zeros k (w / 2)) → ((i : ℕ) → i < count_trailing_zeros k (w / 2) → bit_of (w / 2) i ≡ false) → bit_of w j ≡ false
    go zero e zero h rest = bit_low w ∙ rw e
    go zero e (suc j) h rest = bit_suc w j ∙ rest j (omega arith)
    go (suc d) e j h rest = absurd (omega arith)

bit_shift : (w s j : ℕ) → bit_of (w / 2 ^ s) j ≡ bit_of w (s + j)
unfolding bit_of
bit_shift w s j = rw (shr-shr w s j)

-- as many numbers from i on as the word shows, and no more than it has
pub none_ahead : (m : List ℕ) (i run k : ℕ) → run ≡ count_trailing_zeros 32 (get_or m (i / 32) 0 / 2 ^ (i % 32)) → k ≤ run → k ≤ 32 - i % 32 → NoneFrom (marked m) i k
none_ahead m i run k e h g = record {
  none = λ j l.
      let d : (i + j) / 32 ≡ i / 32 = omega arith in
      let r : (i + j) % 32 ≡ i % 32 + j = omega arith in
      marked_of m (i + j) ∙ rw (d, r) (sym (bit_shift (get_or m (i / 32) 0) (i % 32) j) ∙ trailing_clear 32 (get_or m (i / 32) 0 / 2 ^ (i % 32)) j (omega arith));
}

-- ---- one bit set

pub including_here : (s : ℕ → Bool) (i : ℕ) → including s i i ≡ true
unfolding including
including_here s i = rw (eq-eqb i i refl)

pub including_else : (s : ℕ → Bool) (i j : ℕ) → (j ≡ i → ⊥) → including s i j ≡ s j
unfolding including
including_else s i j h = rw (ne_eqb j i h)

pub mark_law : (m : List ℕ) (i : ℕ) → i / 32 < length m
    → marked (set m (i / 32) (bit_or (get_or m (i / 32) 0) ((1 * 2 ^ (i % 32)) % 2 ^ 32))) ≡ including (marked m) i
mark_law m i p = fun_ext (λ j.
    let b : i % 32 < 32 = omega arith in
    let l : 1 * 2 ^ (i % 32) < 2 ^ 32 = rw one-mul (pow-lt b) in
    let e : (1 * 2 ^ (i % 32)) % 2 ^ 32 ≡ 2 ^ (i % 32) = mod-eq_of_lt l ∙ one-mul (2 ^ (i % 32)) in
    marked_of (set m (i / 32) (bit_or (get_or m (i / 32) 0) ((1 * 2 ^ (i % 32)) % 2 ^ 32))) j ∙ rw e (at j))
  where
    marking : ℕ
    marking = bit_or (get_or m (i / 32) 0) (2 ^ (i % 32))

    at : (j : ℕ) → bit_of (get_or (set m (i / 32) marking) (j / 32) 0) (j % 32) ≡ including (marked m) i j
    at j =
        ⊎_elim
        (λ q. rw q.1 (rw get_or-set_same (bit_set_here (get_or m (i / 32) 0) (i % 32) ∙ sym (including_here (marked m) i))))
        (λ q. ⊎_elim
        (λ w. ap (λ (x : ℕ). bit_of (get_or (set m (i / 32) marking) x 0) (j % 32)) w.1
        ∙ ap (λ (x : ℕ). bit_of x (j % 32)) (get_or-set_same m (i / 32) marking 0 p)
        ∙ bit_set_else (get_or m (i / 32) 0) (i % 32) (j % 32) (λ r. q.1 (let v = w.1 in omega arith))
        ∙ ap (λ (x : ℕ). bit_of (get_or m x 0) (j % 32)) (sym w.1)
        ∙ sym (marked_of m j) ∙ sym (including_else (marked m) i j q.1))
        (λ w. ap (λ (x : ℕ). bit_of x (j % 32)) (get_or-set_other m (i / 32) (j / 32) marking 0 w.1) ∙ sym (marked_of m j) ∙ sym (including_else (marked m) i j q.1))
        (eq_split (j / 32) (i / 32)))
        (eq_split j i)

-- ---- words cleared

pub emptied_in : (n : ℕ) (s : ℕ → Bool) (j : ℕ) → j < n → emptied n s j ≡ false
unfolding emptied
emptied_in n s j p = rw (lt-ltb j n p)

pub emptied_out : (n : ℕ) (s : ℕ → Bool) (j : ℕ) → n ≤ j → emptied n s j ≡ s j
unfolding emptied
emptied_out n s j p = rw (le-ltb j n p)

-- a map with zeros for its first k words
pub cleared : (m zeros : List ℕ) (k : ℕ) → k ≤ length m → zeros ≡ replicate (length (take k m)) 0 → marked (zeros ++ drop k m) ≡ emptied (k * 32) (marked m)
cleared m zeros k p e = fun_ext (λ j.
    ⊎_elim
    (λ l. marked_of (zeros ++ drop k m) j ∙ ap (λ (x : ℕ). bit_of x (j % 32)) (first (j / 32) (let h = l.1 in omega arith)) ∙ bit_none (j % 32) ∙ sym (emptied_in (k * 32) (marked m) j l.1))
    (λ l. marked_of (zeros ++ drop k m) j ∙ ap (λ (x : ℕ). bit_of x (j % 32)) (rest (j / 32) (let h = l.1 in omega arith)) ∙ sym (marked_of m j) ∙ sym (emptied_out (k * 32) (marked m) j l.1))
    (lt_split j (k * 32)))
  where
    z : zeros ≡ replicate k 0
    z = rw (length-take-le k m p) at e

    long : length zeros ≡ k
    long = ap length z ∙ length-replicate {A = ℕ} k 0

    first : (w : ℕ) → w < k → get_or (zeros ++ drop k m) w 0 ≡ 0
    first w l = get_or-append zeros (drop k m) 0 w (omega (arith, long)) ∙ ap (λ (t : List ℕ). get_or t w 0) z ∙ get_or-replicate k w 0 0 l

    rest : (w : ℕ) → k ≤ w → get_or (zeros ++ drop k m) w 0 ≡ get_or m w 0
    rest w l =
        let there : length zeros + (w - k) ≡ w = omega (arith, long) in
        let back : k + (w - k) ≡ w = omega arith in
        ap (λ (x : ℕ). get_or (zeros ++ drop k m) x 0) (sym there) ∙ get_or-append-add zeros (drop k m) (w - k) 0 ∙ get_or-drop k m (w - k) 0 ∙ ap (λ (x : ℕ). get_or m x 0) back

-- ---- counts

ones_law : (m : List ℕ) (w sum : ℕ) → get_or m w 0 < 2 ^ 32 → sum ≡ members (marked m) (w * 32) → sum + ones (get_or m w 0) ≡ members (marked m) ((w + 1) * 32)
ones_law m w sum p h =
    let e : w * 32 + 32 ≡ (w + 1) * 32 = omega arith in
    ap₂ (λ (x y : ℕ). x + y) h
    (ones_bits 32 (get_or m w 0) p ∙ members_same (bit_of (get_or m w 0)) (λ k. marked m (w * 32 + k)) 32 (λ k q. sym (marked_at m w k q)))
    ∙ sym (members_add (marked m) (w * 32) 32) ∙ ap (members (marked m)) e

-- the ones of the first k words are the numbers that they mark
pub ones_members : (m : List ℕ) → Words m → (k : ℕ) → ones_in m k ≡ members (marked m) (k * 32)
unfolding ones_in members
ones_members m h zero = refl
ones_members m h (suc k) = ones_law m k (ones_in m k) (h.small k) (ones_members m h k) ∙ ap (λ (x : ℕ). members (marked m) (x * 32)) (add-one k)

-- a set that has nothing from `total` on
pub members_upto : (s : ℕ → Bool) (total n : ℕ) → total ≤ n → ((i : ℕ) → total ≤ i → i < n → s i ≡ false) → members s n ≡ members s total
unfolding members
members_upto s total n p h =
    let e : total + (n - total) ≡ n = omega arith in
    (rw e at (members_add s total (n - total))) ∙ ap (λ (x : ℕ). members s total + x) (none (n - total) (λ k q. h (total + k) (omega arith) (omega arith))) ∙ add-zero (members s total)
  where
    none : (k : ℕ) → ((i : ℕ) → i < k → s (total + i) ≡ false) → members (λ i. s (total + i)) k ≡ 0
    none k q = sum_zero (λ i. bit (s (total + i))) k (λ i l. ap bit (q i l))

-- ---- a map from its set

words_ext : (a b : List ℕ) → Words a → Words b → length a ≡ length b → ((i : ℕ) → marked a i ≡ marked b i) → a ≡ b
words_ext a b ha hb e h =
    ext_get_or 0 a b e (λ w p. bits_ext 32 (get_or a w 0) (get_or b w 0) (ha.small w) (hb.small w)
    (λ k q. sym (marked_at a w k q) ∙ h (w * 32 + k) ∙ marked_at b w k q))

-- sets that agree below n have the same map
pub words_same : (s t : ℕ → Bool) (n : ℕ) → ((i : ℕ) → i < n → s i ≡ t i) → map_words s n ≡ map_words t n
unfolding map_words word
words_same s t n same =
    gather_same _ _ (word_count n) (λ w l. ap (λ x. x ∷ []) (sum_same _ _ 32 (λ b h. ap (λ (x : Bool). bit x * 2 ^ b) (inside (w * 32 + b)))))
  where
    inside : (i : ℕ) → (ltb i n && s i) ≡ (ltb i n && t i)
    inside i = ⊎_elim (λ l. ap (λ x. ltb i n && x) (same i l.1)) (λ l. rw l.0) (lt_split i n)

module _ (s : ℕ → Bool) (total : ℕ) (old : List ℕ) (room : word_count total ≤ length old) where
  pub length_words : length (map_words s total) ≡ word_count total
  unfolding map_words
  length_words = length_gather (λ w. word s total w ∷ []) 1 (λ i. refl) (word_count total) ∙ mul-one (word_count total)

  fits : 0 + length (map_words s total) ≤ length old
  fits = let h = length_words in omega arith

  pub length_after : length (put old 0 (map_words s total)) ≡ length old
  length_after = length_put old 0 (map_words s total) fits

  pub after_first : (w : ℕ) → w < word_count total → get_or (put old 0 (map_words s total)) w 0 ≡ word s total w
  unfolding map_words
  after_first w p =
      let h = length_words in
      ap (λ (k : ℕ). get_or (put old 0 (map_words s total)) k 0) (let z : w ≡ 0 + w = omega arith in z)
      ∙ put_within old 0 (map_words s total) fits 0 w (omega arith)
      ∙ ap (λ (k : ℕ). get_or (map_words s total) k 0) (let e : w ≡ w * 1 + 0 = omega arith in e)
      ∙ row w p
    where
      row : (w : ℕ) → w < word_count total → get_or (map_words s total) (w * 1 + 0) 0 ≡ word s total w
      row w p = gather_at (λ w. word s total w ∷ []) 1 (λ i. refl) (word_count total) w 0 0 p (omega arith)

  after_rest : (w : ℕ) → word_count total ≤ w → get_or (put old 0 (map_words s total)) w 0 ≡ get_or old w 0
  after_rest w p = put_behind old 0 (map_words s total) fits 0 w (let h = length_words in omega arith)

  pub words_after : Words old → Words (put old 0 (map_words s total))
  unfolding word
  words_after h = record {
    small = λ w. ⊎_elim
        (λ p. rw (after_first w p.1) (sum_lt 32 (λ k. ltb (w * 32 + k) total && s (w * 32 + k))))
        (λ p. rw (after_rest w p.1) (h.small w))
        (lt_split w (word_count total));
  }

  pub marked_first : (i : ℕ) → i < word_count total * 32 → marked (put old 0 (map_words s total)) i ≡ (ltb i total && s i)
  unfolding word
  marked_first i p =
      let e : i / 32 * 32 + i % 32 ≡ i = omega arith in
      marked_of (put old 0 (map_words s total)) i
      ∙ ap (λ (x : ℕ). bit_of x (i % 32)) (after_first (i / 32) (omega arith))
      ∙ bit_sum 32 (λ k. ltb (i / 32 * 32 + k) total && s (i / 32 * 32 + k)) (i % 32) (omega arith)
      ∙ ap (λ (x : ℕ). ltb x total && s x) e

  marked_rest : (i : ℕ) → word_count total * 32 ≤ i → marked (put old 0 (map_words s total)) i ≡ marked old i
  marked_rest i p = marked_of (put old 0 (map_words s total)) i ∙ ap (λ (x : ℕ). bit_of x (i % 32)) (after_rest (i / 32) (omega arith)) ∙ sym (marked_of old i)

  -- a map that marks the set's members below total, no other number in their words, and what it marked behind them, is the map of the set
  pub map_is : (m : List ℕ) → Words m → Words old → length m ≡ length old
      → ((i : ℕ) → i < word_count total * 32 → marked m i ≡ (ltb i total && s i)) → ((i : ℕ) → word_count total * 32 ≤ i → marked m i ≡ marked old i)
      → m ≡ put old 0 (map_words s total)
  map_is m hm ho e first rest =
      words_ext m (put old 0 (map_words s total)) hm (words_after ho) (e ∙ sym length_after) (λ i. ⊎_elim
      (λ p. first i p.1 ∙ sym (marked_first i p.1))
      (λ p. rest i p.1 ∙ sym (marked_rest i p.1))
      (lt_split i (word_count total * 32)))
