-- Lists that are gathered row by row: where a row stands in them, and when two are the same. Assumes nothing.
use Prim.Native.Nat.{ℕ, zero, suc, ◌+◌, ◌*◌, ◌≤◌, ◌<◌}
use mathlib.Core.Path.{◌≡◌, refl, sym, ap, ◌∙◌}
use mathlib.Core.List.{List, [], ◌∷◌, ◌++◌, append_assoc, append-nil}
use mathlib.Core.Logic.{⊎_elim}
use native.Mathlib.Nat.{add-zero, zero-add, add-suc, eq-or-lt_of_le, zero-mul, suc-mul}
use native.Mathlib.Omega.{arith}
use lib.ListN.{length, get_or, take, drop, length-append}
use lib.Seq.{take-suc, take-length, drop_at}
use Rattle.rings.specs.Table.{put, gather}
use Rattle.rings.proofs.Tables.{length_gather, gather_at, gather_same}
use Rattle.file_format.specs.Blocks.{gather_from}

module _ {A : Type 0} where
  -- row v, with what comes before and after it
  pub gather_split : (f : ℕ → List A) (v n : ℕ) → v < n → (more : List A) × (gather f n ≡ gather f v ++ (f v ++ more))
  gather_split f v zero h = absurd (omega arith)
  gather_split f v (suc n) h =
      ⊎_elim
      (λ e. let q : n ≡ v = omega arith in ([], ap (λ (k : ℕ). gather f k ++ f k) q ∙ ap (λ (x : List A). gather f v ++ x) (sym (append-nil (f v)))))
      (λ l. let (m, q) = gather_split f v n (omega arith) in (m ++ f n, ap (λ (x : List A). x ++ f n) q ∙ simp append_assoc))
      (eq-or-lt_of_le h)

  -- the list from row v on
  pub gather_drop : (f : ℕ → List A) (v n k : ℕ) (tail : List A) → v < n → k ≡ length (gather f v) → (more : List A) × (drop k (gather f n ++ tail) ≡ f v ++ more)
  gather_drop f v n k tail h e =
      let (m, q) = gather_split f v n h in
      let g : gather f n ++ tail ≡ gather f v ++ (f v ++ (m ++ tail)) = ap (λ (x : List A). x ++ tail) q ∙ simp append_assoc in
      (m ++ tail, ap (drop k) g ∙ drop_at (gather f v) (f v ++ (m ++ tail)) k (sym e))

  -- the first i rows, and k more
  pub gather_add : (f : ℕ → List A) (i k : ℕ) → gather f (i + k) ≡ gather f i ++ gather_from f i k
  unfolding gather_from
  gather_add f i zero = ap (gather f) (add-zero i) ∙ sym (append-nil (gather f i))
  gather_add f i (suc k) = ap (gather f) (add-suc i k) ∙ ap (λ (x : List A). x ++ f (i + k)) (gather_add f i k) ∙ append_assoc (gather f i) (gather_from f i k) (f (i + k))

  pub from_add : (f : ℕ → List A) (e i k : ℕ) → gather_from f e (i + k) ≡ gather_from f e i ++ gather_from f (e + i) k
  unfolding gather_from
  from_add f e i k =
      gather_add (λ j. f (e + j)) i k
      ∙ ap (λ (x : List A). gather_from f e i ++ x) (gather_same (λ j. f (e + (i + j))) (λ j. f (e + i + j)) k (λ j l. ap f (let g : e + (i + j) ≡ e + i + j = omega arith in g)))

  pub from_start : (f : ℕ → List A) (n : ℕ) → gather_from f 0 n ≡ gather f n
  unfolding gather_from
  from_start f n = gather_same (λ j. f (0 + j)) f n (λ j l. ap f (zero-add j))

  pub length_from : (f : ℕ → List A) (w : ℕ) → ((i : ℕ) → length (f i) ≡ w) → (e n : ℕ) → length (gather_from f e n) ≡ n * w
  unfolding gather_from
  length_from f w wide e n = length_gather (λ j. f (e + j)) w (λ j. wide (e + j)) n

  -- rows that are equally long as far as it matters
  pub length_rows_below : (f : ℕ → List A) (k n : ℕ) → ((v : ℕ) → v < n → length (f v) ≡ k) → length (gather f n) ≡ n * k
  length_rows_below f k zero h = sym (zero-mul k)
  length_rows_below f k (suc n) h = length-append (gather f n) (f n) ∙ omega (arith, length_rows_below f k n (λ v l. h v (omega arith)), h n (omega arith), suc-mul n k)

  -- a list's elements one by one are the list
  gather_take : (l : List A) (d : A) (n : ℕ) → n ≤ length l → gather (λ i. get_or l i d ∷ []) n ≡ take n l
  gather_take l d zero h = refl
  gather_take l d (suc n) h = ap (λ (x : List A). x ++ (get_or l n d ∷ [])) (gather_take l d n (omega arith)) ∙ sym (take-suc l n d h)

  pub gather_all : (l : List A) (d : A) → gather (λ i. get_or l i d ∷ []) (length l) ≡ l
  gather_all l d = gather_take l d (length l) (omega arith) ∙ take-length l

  -- element i of rows of one element each
  pub gather_one : (g : ℕ → A) (n i : ℕ) (d : A) → i < n → get_or (gather (λ j. g j ∷ []) n) i d ≡ g i
  gather_one g n i d h = let e : i ≡ i * 1 + 0 = omega arith in ap (λ (k : ℕ). get_or (gather (λ j. g j ∷ []) n) k d) e ∙ gather_at (λ j. g j ∷ []) 1 (λ j. refl) n i 0 d h (omega arith)

  -- a table that begins with these rows
  pub put_front : (t b : List A) → put t 0 b ≡ b ++ drop (0 + length b) t
  unfolding put
  put_front t b = refl
