-- Levels of rows in one table, each level right behind the one before: what stands where once k levels are written behind level 0, and how a part that
-- was lent to write one level more comes back. Over any rows of one width. Assumes nothing.
use Prim.Native.Nat.{ℕ, zero, suc, ◌+◌, ◌-◌, ◌*◌, ◌≤◌, ◌<◌}
use mathlib.Core.Path.{◌≡◌, sym, ap, ap₂, ◌∙◌}
use mathlib.Core.List.{List, ◌++◌, append_assoc, append-nil}
use mathlib.Core.Logic.{⊎_elim}
use native.Mathlib.Nat.{add-zero, zero-add, add-mul, suc-mul, mul-le-mul_right, not-suc-le-zero}
use native.Mathlib.Omega.{arith}
use lib.ListN.{length, get_or, take, drop, length-append, length-drop, drop_of_length-le, get_or-append}
use lib.Seq.{take_all, take-add, drop-drop, get_or-append-add}
use borrow.Rule.Slice.PartMut.{put_mid}
use Rattle.mesh.specs.Search.{sum}
use Rattle.mesh.proofs.Lists.{lt_split, climbs}
use Rattle.rings.specs.Table.{put, gather}
use Rattle.rings.proofs.Blocks.{put_over}
use Rattle.rings.proofs.Tables.{length_put, put_within, put_before, put_behind, length_gather, gather_at, gather_more}

-- ---- a part that begins at a, lent and back

module _ {A : Type 0} (t : List A) (a : ℕ) (within : a ≤ length t) where
  pub part_is : take (length t - a) (drop a t) ≡ drop a t
  part_is = take_all (length t - a) (drop a t) (omega (arith, length-drop a t))

  put_part : (b : ℕ) (block : List A) → take a t ++ put (drop a t) b block ≡ put t (a + b) block
  unfolding put
  put_part b block =
      sym (append_assoc (take a t) (take b (drop a t)) (block ++ drop (b + length block) (drop a t)))
      ∙ ap₂ (λ (x y : List A). x ++ (block ++ y)) (sym (take-add a b t))
      (drop-drop (b + length block) a t ∙ ap (λ (k : ℕ). drop k t) (let e : a + (b + length block) ≡ a + b + length block = omega arith in e))

  nothing_behind : (part : List A) → part ++ drop (length t - a) (drop a t) ≡ part
  nothing_behind part = ap (λ (x : List A). part ++ x) (drop_of_length-le (drop a t) {i = length t - a} (omega (arith, length-drop a t))) ∙ append-nil part

  -- a block written in the part is a block written in the table
  pub part_back : (b : ℕ) (block part : List A) → part ≡ put (take (length t - a) (drop a t)) b block → put_mid a (length t - a) t part ≡ put t (a + b) block
  part_back b block part e =
      ap (λ (x : List A). take a t ++ x) (nothing_behind part ∙ e ∙ ap (λ (x : List A). put x b block) part_is) ∙ put_part b block

-- ---- level after level

module _ {A : Type 0} (w : ℕ) (row : ℕ → ℕ → List A) (wide : (j x : ℕ) → length (row j x) ≡ w) (size : ℕ → ℕ) where
  -- the rows of levels 1 to k, where row j has those of level j + 1
  abbrev pub blocks : ℕ → List A
  blocks k = gather (λ j. gather (row j) (size (suc j))) k

  length_block : (j : ℕ) → length (gather (row j) (size (suc j))) ≡ size (suc j) * w
  length_block j = length_gather (row j) w (wide j) (size (suc j))

  pub blocks_end : (k : ℕ) → size 0 * w + length (blocks k) ≡ sum size (suc k) * w
  blocks_end zero = add-zero (size 0 * w) ∙ ap (λ (n : ℕ). n * w) (sym (zero-add (size 0)))
  blocks_end (suc k) = omega (arith, length-append (blocks k) (gather (row k) (size (suc k))), length_block k, blocks_end k, add-mul (sum size (suc k)) (size (suc k)) w)

  starts_climb : (j k : ℕ) → j ≤ k → sum size j * w ≤ sum size k * w
  starts_climb j k l = mul-le-mul_right w (climbs (sum size) (λ i. omega arith) j k l)

  -- a row lies before its level ends
  row_before : (j x i : ℕ) → x < size (suc j) → i < w → sum size (suc j) * w + (x * w + i) < sum size (suc (suc j)) * w
  row_before j x i l h =
      let m : suc x * w ≤ size (suc j) * w = mul-le-mul_right w l in
      omega (arith, suc-mul x w, add-mul (sum size (suc j)) (size (suc j)) w)

  last : (j x : ℕ) → x < size (suc j) → (i : ℕ) → i < w → (p : ℕ) → size 0 * w + p ≡ sum size (suc j) * w + (x * w + i)
      → (d : A) → get_or (blocks j ++ gather (row j) (size (suc j))) p d ≡ get_or (row j x) i d
  last j x h i g p e d =
      let q : p ≡ length (blocks j) + (x * w + i) = omega (arith, blocks_end j) in
      ap (λ (y : ℕ). get_or (blocks j ++ gather (row j) (size (suc j))) y d) q
      ∙ get_or-append-add (blocks j) (gather (row j) (size (suc j))) (x * w + i) d
      ∙ gather_at (row j) w (wide j) (size (suc j)) x i d h g

  block_at : (k j : ℕ) → j < k → (x : ℕ) → x < size (suc j) → (i : ℕ) → i < w → (p : ℕ) → size 0 * w + p ≡ sum size (suc j) * w + (x * w + i)
      → (d : A) → get_or (blocks k) p d ≡ get_or (row j x) i d
  block_at zero j l x h i g p e d = absurd (not-suc-le-zero l)
  block_at (suc k) j l x h i g p e d =
      ⊎_elim
      (λ s.
      let m : p < length (blocks k) = omega (arith, row_before j x i h g, starts_climb (suc (suc j)) (suc k) (omega arith), blocks_end k) in
      get_or-append (blocks k) (gather (row k) (size (suc k))) d p m ∙ block_at k j s.1 x h i g p e d)
      (λ s.
      let q : j ≡ k = omega arith in
      rw (sym q) (last j x h i g p e d))
      (lt_split j k)

  module _ (t : List A) (k : ℕ) (room : sum size (suc k) * w ≤ length t) where
    -- the table once levels 1 to k are written
    abbrev pub stacked : List A
    stacked = put t (size 0 * w) (blocks k)

    fits : size 0 * w + length (blocks k) ≤ length t
    fits = omega (arith, blocks_end k)

    pub stacked_length : length stacked ≡ length t
    stacked_length = length_put t (size 0 * w) (blocks k) fits

    -- written once more, the levels stand as they did
    pub stacked_over : A → put stacked (size 0 * w) (blocks k) ≡ stacked
    stacked_over d = put_over d t (size 0 * w) (blocks k) (blocks k) (omega arith) fits

    -- a row of level j + 1
    pub stacked_at : (d : A) (j x i : ℕ) → j < k → x < size (suc j) → i < w → get_or stacked (sum size (suc j) * w + (x * w + i)) d ≡ get_or (row j x) i d
    stacked_at d j x i l h g =
        let p : ℕ = sum size (suc j) * w + (x * w + i) - size 0 * w in
        let z : size 0 * w ≤ sum size (suc j) * w = mul-le-mul_right w (climbs_first j) in
        let e : size 0 * w + p ≡ sum size (suc j) * w + (x * w + i) = omega arith in
        let m : p < length (blocks k) = omega (arith, row_before j x i h g, starts_climb (suc (suc j)) (suc k) (omega arith), blocks_end k) in
        ap (λ (q : ℕ). get_or stacked q d) (sym e) ∙ put_within t (size 0 * w) (blocks k) fits d p m ∙ block_at k j l x h i g p e d
      where
        climbs_first : (j : ℕ) → size 0 ≤ sum size (suc j)
        climbs_first zero = omega arith
        climbs_first (suc j) = omega (arith, climbs_first j)

    -- level 0, and what lies behind the last level
    pub stacked_before : (d : A) (p : ℕ) → p < size 0 * w → get_or stacked p d ≡ get_or t p d
    stacked_before d p l = put_before t (size 0 * w) (blocks k) fits d p l

    pub stacked_behind : (d : A) (p : ℕ) → sum size (suc k) * w ≤ p → get_or stacked p d ≡ get_or t p d
    stacked_behind d p l = put_behind t (size 0 * w) (blocks k) fits d p (omega (arith, blocks_end k))

    -- one level more, through the part that begins where level k does
    pub stacked_more : sum size (suc (suc k)) * w ≤ length t → (table : List A) → table ≡ stacked → (p q : ℕ) → p ≡ sum size k * w → q ≡ size k * w → (part : List A)
        → part ≡ put (take (length table - p) (drop p table)) q (gather (row k) (size (suc k)))
        → put_mid p (length table - p) table part ≡ put t (size 0 * w) (blocks (suc k))
    stacked_more more table same p q b c part e =
        let block : List A = gather (row k) (size (suc k)) in
        let l : length table ≡ length t = ap length same ∙ stacked_length in
        let z : p + q ≡ size 0 * w + length (blocks k) = omega (arith, add-mul (sum size k) (size k) w, blocks_end k) in
        let f : p ≤ length table = omega (arith, starts_climb k (suc k) (omega arith)) in
        part_back table p f q block part e
        ∙ ap₂ (λ (x : List A) (y : ℕ). put x y block) same z
        ∙ gather_more (λ j. gather (row j) (size (suc j))) t (size 0 * w) k (omega (arith, blocks_end (suc k), length-append (blocks k) block))
