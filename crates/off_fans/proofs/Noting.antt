-- One entry more in a row: what the tables then keep. Assumes nothing.
use mathlib.Core.Path.{◌≡◌, sym, ap, ◌∙◌, subst}
use mathlib.Core.List.{List, [], ◌∷◌, ◌++◌}
use mathlib.Core.Logic.{⊎_elim, ◌≢◌}
use Prim.Native.Nat.{ℕ, suc, ◌+◌, ◌*◌, ◌≤◌, ◌<◌}
use native.Mathlib.Nat.{suc-mul, mul-le-mul_right}
use native.Mathlib.Omega.{arith}
use lib.ListN.{length, get_or, set, length-set, length-append, get_or-append}
use lib.Seq.{get_or-set_same, get_or-set_other, get_or-append_seam}
use borrow.Author.Tests.{eq-eqb, ne_eqb}
use Rattle.mesh.proofs.Lists.{eq_split, lt_split}
use Rattle.off_fans.specs.Rows.{Kept, Fans, added, Noted}

-- places of different rows differ
rows_apart : (width i j a b : ℕ) → a < width → b < width → i ≢ j → i * width + a ≢ j * width + b
rows_apart width i j a b h g d e =
    ⊎_elim
    (λ l. absurd (omega (arith, below i j l.1)))
    (λ l. absurd (omega (arith, below j i (omega (arith, l.1)))))
    (lt_split i j)
  where
    below : (i j : ℕ) → i < j → i * width + width ≤ j * width
    below i j l = omega (arith, suc-mul i width, mul-le-mul_right {m = suc i} {n = j} width l)

-- the counts with one more for row j
abbrev grown : ℕ → List ℕ → List ℕ
grown j counts = set counts j (get_or counts j 0 + 1)

-- the table with x at the next place of row j
abbrev entered : ℕ → ℕ → ℕ → List ℕ → List ℕ → List ℕ
entered width j x counts table = set table (j * width + get_or counts j 0) x

module _ (width j x : ℕ) (counts table l : List ℕ) (h : j < length counts) (k : Kept width j counts table l) where
  count_more : get_or (grown j counts) j 0 ≡ length (l ++ (x ∷ []))
  count_more = get_or-set_same counts j _ 0 h ∙ omega (arith, k.count, length-append l (x ∷ []))

  kept_more : get_or counts j 0 < width → j * width + width ≤ length table
      → Kept width j (grown j counts) (entered width j x counts table) (l ++ (x ∷ []))
  kept_more f r = record {
    count = count_more;
    entry = λ i a b.
        ⊎_elim
        (λ q.
        get_or-set_other table (j * width + get_or counts j 0) (j * width + i) x 0 (apart i (omega (arith, k.count, q.1)))
        ∙ k.entry i q.1 b
        ∙ sym (get_or-append l (x ∷ []) 0 i q.1))
        (λ q. here i (omega (arith, length-append l (x ∷ []), q.1, a)))
        (lt_split i (length l));
  }
    where
      apart : (i : ℕ) → i < get_or counts j 0 → j * width + i ≢ j * width + get_or counts j 0
      apart i g e = omega arith

      here : (i : ℕ) → i ≡ length l → get_or (entered width j x counts table) (j * width + i) 0 ≡ get_or (l ++ (x ∷ [])) i 0
      here i e =
          ap (λ p. get_or (entered width j x counts table) (j * width + p) 0) (e ∙ sym k.count)
          ∙ get_or-set_same table (j * width + get_or counts j 0) x 0 (omega (arith, f))
          ∙ sym (ap (λ p. get_or (l ++ (x ∷ [])) p 0) e ∙ get_or-append_seam l x [] 0)

-- ---- another row

module _ (width i j : ℕ) (counts table l : List ℕ) (c : ℕ) (d : i ≢ j) (k : Kept width i counts table l) where
  other_more : (b x : ℕ) → b < width → Kept width i (set counts j c) (set table (j * width + b) x) l
  other_more b x h = record {
    count = get_or-set_other counts j i c 0 d ∙ k.count;
    entry = λ a p q. get_or-set_other table (j * width + b) (i * width + a) x 0 (rows_apart width i j a b q h d) ∙ k.entry a p q;
  }

-- ---- both tables

added_same : (A : ℕ → List ℕ) (j x i : ℕ) → i ≡ j → A i ++ (x ∷ []) ≡ added A j x i
added_same A j x i e = rw (eq-eqb i j e)

added_other : (A : ℕ → List ℕ) (j x i : ℕ) → i ≢ j → A i ≡ added A j x i
added_other A j x i d = rw (ne_eqb i j d)

module _ (width j x w : ℕ) (counts froms tos : List ℕ) (h : j < length counts) where
  pub note_more : get_or counts j 0 < width → j * width + width ≤ length froms → j * width + width ≤ length tos
      → Noted width j x w counts froms tos (grown j counts) (entered width j x counts froms) (entered width j w counts tos)
  note_more f a b = record {
    counts_same = simp length-set;
    froms_same = simp length-set;
    tos_same = simp length-set;
    more = λ rows A B r l k. record {
      from = λ i g. row froms A x i a (k.from i g);
      to = λ i g. row tos B w i b (k.to i g);
    };
  }
    where
      row : (table : List ℕ) (A : ℕ → List ℕ) (y i : ℕ) → j * width + width ≤ length table → Kept width i counts table (A i)
          → Kept width i (grown j counts) (entered width j y counts table) (added A j y i)
      row table A y i r k =
          ⊎_elim
          (λ e.
          subst (Kept width i (grown j counts) (entered width j y counts table)) (added_same A j y i e.1)
          (subst
          (λ p. Kept width p counts table (A i) → Kept width p (grown j counts) (entered width j y counts table) (A i ++ (y ∷ [])))
          (sym e.1)
          (λ q. kept_more width j y counts table (A i) h q f r)
          k))
          (λ e.
          subst (Kept width i (grown j counts) (entered width j y counts table)) (added_other A j y i e.1)
          (other_more width i j counts table (A i) (get_or counts j 0 + 1) e.1 k (get_or counts j 0) y f))
          (eq_split i j)

-- ---- a vertex and its row

pub fans_same : {rows width : ℕ} {counts froms tos : List ℕ} (A B A' B' : ℕ → List ℕ) → ((j : ℕ) → j < rows → A j ≡ A' j)
    → ((j : ℕ) → j < rows → B j ≡ B' j)
    → Fans rows width counts froms tos A B → Fans rows width counts froms tos A' B'
fans_same {rows} {width} {counts} {froms} {tos} A B A' B' a b k = record {
  from = λ j h. subst (Kept width j counts froms) (a j h) (k.from j h);
  to = λ j h. subst (Kept width j counts tos) (b j h) (k.to j h);
}

-- a row's places are within the table
pub row_room : (rows width j n : ℕ) → j < rows → rows * width ≤ n → j * width + width ≤ n
row_room rows width j n h g = omega (arith, suc-mul j width, mul-le-mul_right {m = suc j} {n = rows} width h)
