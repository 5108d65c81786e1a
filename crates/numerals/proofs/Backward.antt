-- The digits of a number, written from the last to the first. Assumes nothing.
use Prim.Native.Nat.{ℕ, zero, suc, ◌+◌, ◌-◌, ◌/◌, ◌%◌, ◌≤◌, ◌<◌}
use mathlib.Core.Path.{◌≡◌, refl, sym, ap, subst, ◌∙◌}
use mathlib.Core.List.{List, [], ◌∷◌, ◌++◌, append_assoc, append-nil}
use native.Mathlib.Nat.{add-suc, add-zero}
use native.Mathlib.Numerals.{sub-one}
use native.Mathlib.Omega.{arith}
use lib.ListN.{length, get_or, take, drop, set}
use lib.Seq.{take-suc}
use Rattle.rings.specs.Table.{put}
use Rattle.file_format.specs.Blocks.{Put}
use Rattle.file_format.proofs.Blocks.{put_none, put_one, put_length, renewed}
use Rattle.numerals.specs.Numerals.{digit, digits}
use Rattle.numerals.proofs.Digits.{last_digits, digits_are}

-- a block that begins one element earlier, with what stood there
earlier : {l m : List ℕ} {i : ℕ} {b : List ℕ} → Put l (suc i) b m → i < length l → Put l i (get_or l i 0 ∷ b) m
unfolding put
earlier {l} {m} {i} {b} p h = record {
  fits = let f = p.fits in omega arith;
  is = p.is
      ∙ ap (λ (x : List ℕ). x ++ (b ++ drop (suc i + length b) l)) (take-suc l i 0 h)
      ∙ append_assoc (take i l) (get_or l i 0 ∷ []) (b ++ drop (suc i + length b) l)
      ∙ ap (λ (k : ℕ). take i l ++ (get_or l i 0 ∷ (b ++ drop k l))) (let e : suc i + length b ≡ i + suc (length b) = omega arith in e);
}

-- an element before a block
put_before : {l m : List ℕ} {i a : ℕ} {b : List ℕ} → Put l (suc i) b m → Put l i (a ∷ b) (set m i a)
put_before {l} {m} {i} {a} {b} p =
    let f = p.fits in
    let e = put_length p in
    renewed (get_or l i 0 ∷ []) b (a ∷ []) (earlier p (omega arith)) (put_one (omega arith)) refl

-- all but the first k digits of n stand in the text, whose place is `at`, and the first k are the last k of `rest`
pub record Backward (old : List ℕ) (at n k rest : ℕ) (new : List ℕ) : Type 0 where
  pub back : List ℕ
  pub put : Put old (at + k) back new
  pub whole : digits 20 n ≡ last_digits k rest ++ back

pub backward_none : {l : List ℕ} {i : ℕ} (n k : ℕ) → k ≡ length (digits 20 n) → i + k ≤ length l → Backward l i n k n l
backward_none {l} {i} n k e h = record {
  back = [];
  put = put_none h;
  whole = digits_are 20 n ∙ ap (λ (j : ℕ). last_digits j n) (sym e) ∙ sym (append-nil (last_digits k n));
}

pub backward_more : {l m : List ℕ} {i n rest d : ℕ} (k : ℕ) → 0 < k → Backward l i n k rest m → d ≡ digit (rest % 10)
    → Backward l i n (k - 1) (rest / 10) (set m (i + (k - 1)) d)
unfolding last_digits
backward_more zero h b e = absurd (omega arith)
backward_more {l} {m} {i} {n} {rest} {d} (suc k) h b e = rw (sub-one (suc k)) record {
  back = d ∷ b.back;
  put = put_before (subst (λ (x : ℕ). Put l x b.back m) (add-suc i k) b.put);
  whole = b.whole ∙ append_assoc (last_digits k (rest / 10)) (digit (rest % 10) ∷ []) b.back
      ∙ ap (λ (x : ℕ). last_digits k (rest / 10) ++ (x ∷ b.back)) (sym e);
}

pub backward_all : {l m : List ℕ} {i n rest : ℕ} (k : ℕ) → k ≤ 0 → Backward l i n k rest m → Put l i (digits 20 n) m
unfolding last_digits
backward_all {l} {m} {i} {n} {rest} zero h b = rw b.whole (subst (λ (x : ℕ). Put l x b.back m) (add-zero i) b.put)
backward_all (suc k) h b = absurd (omega arith)
