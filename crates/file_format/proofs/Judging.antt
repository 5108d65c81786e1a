-- What judging a layout shows, record by record and as a whole. Assumes nothing.
use Prim.Native.Nat.{ℕ, ◌+◌, ◌-◌, ◌*◌, ◌≤◌, ◌<◌}
use mathlib.Core.Path.{◌≡◌, refl, sym, ap, subst, ◌∙◌}
use mathlib.Core.Bool.{Bool, true, false, not}
use mathlib.Core.List.{List}
use native.Mathlib.Numerals.{add-one}
use native.Mathlib.Omega.{arith}
use borrow.Author.Tests.{lt-ltb, le-ltb, leb-true, ltb-false, not-false}
use lib.Dec.{ltb, leb}
use lib.ListN.{length}
use Rattle.mesh.proofs.First.{Clear, clear_none, clear_more, first_is, first_end, first_le, by_cases}
use Rattle.rings.specs.Verdict.{refuse_if, refuse_at}
use Rattle.rings.specs.declared.Refusal.TheVariants.{FileLayout}
use Rattle.rings.proofs.Verdicts.{if_hit, if_pass, at_hit, at_pass, if_accepted, at_accepted}
use Rattle.file_format.specs.Bytes.{number_at, length_at, kind_at, after_at, whole_at}
use Rattle.file_format.specs.Records.{past_at}
use Rattle.file_format.specs.Layout.{file_count, row_at, file_valence, record_at, is_first, is_row, is_last, file_verdict}
use Rattle.file_format.specs.Judging.{no_row, Passed, Rows}
use Rattle.file_format.proofs.Finding.{and_both, past_whole, record_whole, record_kind, record_length, record_after, record_fits}
use Rattle.rings.specs.Refusal.{Verdict}
use Rattle.std.specs.Prelude.{Ok, Err}

not_of : {b t : Bool} → b ≡ t → (not b) ≡ (not t)
not_of e = ap not e

-- ---- a row

pub record IsRow (s : List ℕ) (at : ℕ) : Type 0 where
  pub whole : whole_at s at ≡ true
  pub kind : kind_at s at ≡ 2
  pub long : length_at s at ≡ 14 + 2 * file_valence s at
  pub most : file_valence s at ≤ 32
  pub next : after_at s at ≡ at + (20 + 2 * file_valence s at)
  pub fits : at + (20 + 2 * file_valence s at) ≤ length s

pub row_is : (s : List ℕ) (at : ℕ) → is_row s at ≡ true → IsRow s at
unfolding is_row
row_is s at e =
    let n = file_valence s at in
    let (p, q) = and_both (record_at s at 2 (14 + 2 * n)) (leb n 32) e in
    record {
      whole = record_whole s at 2 (14 + 2 * n) p;
      kind = record_kind s at 2 (14 + 2 * n) p;
      long = record_length s at 2 (14 + 2 * n) p;
      most = leb-true n 32 q;
      next = let a = record_after s at 2 (14 + 2 * n) p in omega arith;
      fits = let a = record_fits s at 2 (14 + 2 * n) p in omega arith;
    }

pub row_cut : (s : List ℕ) (at : ℕ) → at ≤ length s → length s - at < 20 → false ≡ is_row s at
row_cut s at g h = sym (by_cases (is_row s at) (λ e. let r = (row_is s at e).fits in omega arith))

pub row_not : (s : List ℕ) (at n : ℕ) {r : Bool} → n ≡ number_at s (at + 18) 2 → r ≡ record_at s at 2 (14 + 2 * n) → r ≡ false → false ≡ is_row s at
unfolding is_row file_valence
row_not s at n e p q = rw (← e, ← p, q)

pub row_by : (s : List ℕ) (at n : ℕ) {r : Bool} → n ≡ number_at s (at + 18) 2 → r ≡ record_at s at 2 (14 + 2 * n) → r ≡ true → leb n 32 ≡ is_row s at
unfolding is_row file_valence
row_by s at n e p q = rw (← e, ← p, q)

-- ---- the first record, and the rows behind it

pub first_past : (s : List ℕ) → is_first s ≡ true → past_at s 0 ≡ after_at s 0
unfolding is_first
first_past s e = past_whole s 0 (record_whole s 0 1 2 e)

pub first_after : (s : List ℕ) → is_first s ≡ true → after_at s 0 ≡ 8
unfolding is_first
first_after s e = record_after s 0 1 2 e

pub first_fits : (s : List ℕ) → is_first s ≡ true → 8 ≤ length s
unfolding is_first
first_fits s e = record_fits s 0 1 2 e

pub rows_start : (s : List ℕ) → row_at s 0 ≡ after_at s 0
unfolding row_at
rows_start s = refl

pub rows_step : (s : List ℕ) (v : ℕ) → row_at s (v + 1) ≡ after_at s (row_at s v)
unfolding row_at
rows_step s v = rw add-one

-- the place that a turn of the loop reaches
pub reached_next : (s : List ℕ) (v at next : ℕ) → at ≡ row_at s v → next ≡ after_at s at → next ≡ row_at s (v + 1)
reached_next s v at next e p = p ∙ ap (after_at s) e ∙ sym (rows_step s v)

-- all before row v are rows, and it begins at this place
pub record Reaches (s : List ℕ) (v at : ℕ) : Type 0 where
  pub begins : at ≡ row_at s v
  pub within : at ≤ length s
  pub rows : Clear (no_row s) v

-- behind the first record
pub reaches_first : (s : List ℕ) (at : ℕ) → is_first s ≡ true → at ≡ past_at s 0 → Reaches s 0 at
reaches_first s at f e =
    let b : at ≡ after_at s 0 = e ∙ first_past s f in
    record { begins = b ∙ sym (rows_start s); within = omega (arith, b, first_after s f, first_fits s f); rows = clear_none }

-- what stands here, of row v
row_here : (s : List ℕ) (v at : ℕ) {b : Bool} → Reaches s v at → is_row s at ≡ b → no_row s v ≡ not b
row_here s v at l t = ap (λ (k : ℕ). not (is_row s k)) (sym l.begins) ∙ ap not t

-- behind a row
pub reaches_next : (s : List ℕ) (v at next : ℕ) → Reaches s v at → is_row s at ≡ true → next ≡ past_at s at → Reaches s (v + 1) next
reaches_next s v at next l t e =
    let row = row_is s at t in
    let b : next ≡ after_at s at = e ∙ past_whole s at row.whole in
    record {
      begins = reached_next s v at next l.begins b;
      within = omega (arith, b, row.next, row.fits);
      rows = clear_more l.rows (row_here s v at l t);
    }

-- where there is no row
pub reaches_fault : (s : List ℕ) (n v at : ℕ) → Reaches s v at → v < n → is_row s at ≡ false → Passed s n v at
reaches_fault s n v at l h t = record { first = first_is l.rows h (row_here s v at l t); begins = l.begins; within = l.within }

-- behind the last row
pub reaches_end : (s : List ℕ) (n v at : ℕ) → Reaches s v at → v ≡ n → Passed s n n at
reaches_end s n v at l e =
    let h : Reaches s n at = subst (λ (k : ℕ). Reaches s k at) e l in
    record { first = first_end h.rows (omega arith) (omega arith); begins = h.begins; within = h.within }

-- ---- the whole layout

module _ (s : List ℕ) where
  -- what is left of the verdict before each stage
  abbrev pub tail : ℕ → Verdict
  tail at = refuse_if (ltb (at + 6) (length s)) (FileLayout (at + 6)) (Ok tt)

  abbrev pub last : ℕ → Verdict
  last at = refuse_if (not (is_last s at)) (FileLayout at) (tail at)

  abbrev pub all : ℕ → Verdict
  all n = refuse_at (no_row s) n (λ v. FileLayout (row_at s v)) (last (row_at s n))

  module _ {r : Bool} (p : r ≡ record_at s 0 1 2) where
    pub judged_first : (not r) ≡ true → Err (FileLayout 0) ≡ file_verdict s
    unfolding file_verdict is_first
    judged_first t = if_hit _ _ _ _ (not_of p) t

    pub first_good : (not r) ≡ false → is_first s ≡ true
    unfolding is_first
    first_good t = sym p ∙ not-false r t

  module _ (f : is_first s ≡ true) (n : ℕ) (c : n ≡ number_at s 6 2) (row at : ℕ) (p : Passed s n row at) where
    past_first : all n ≡ file_verdict s
    unfolding file_verdict file_count
    past_first = ap all c ∙ sym (if_pass (not (is_first s)) (FileLayout 0) (all (number_at s 6 2)) (not (is_first s)) refl (not_of f))

    pub judged_row : row < n → Err (FileLayout at) ≡ file_verdict s
    judged_row l = ap (λ (k : ℕ). Err (FileLayout k)) p.begins ∙ at_hit (no_row s) n (λ v. FileLayout (row_at s v)) (last (row_at s n)) row p.first l ∙ past_first

    module _ (l : n ≤ row) where
      past_rows : last at ≡ file_verdict s
      past_rows =
          let e : row ≡ n = omega (arith, p.first, first_le (no_row s) n) in
          ap last (p.begins ∙ ap (row_at s) e) ∙ sym (at_pass (no_row s) n (λ v. FileLayout (row_at s v)) (last (row_at s n)) row p.first l) ∙ past_first

      module _ {r : Bool} (q : r ≡ record_at s at 3 0) where
        pub judged_last : (not r) ≡ true → Err (FileLayout at) ≡ file_verdict s
        unfolding is_last
        judged_last t = if_hit (not (is_last s at)) (FileLayout at) (tail at) (not r) (not_of q) t ∙ past_rows

        module _ (t : (not r) ≡ false) where
          past_last : tail at ≡ file_verdict s
          unfolding is_last
          past_last = sym (if_pass (not (is_last s at)) (FileLayout at) (tail at) (not r) (not_of q) t) ∙ past_rows

          pub last_fits : at + 6 ≤ length s
          last_fits = let h = record_fits s at 3 0 (sym q ∙ not-false r t) in omega arith

          pub judged_tail : at + 6 < length s → Err (FileLayout (at + 6)) ≡ file_verdict s
          judged_tail h = if_hit (ltb (at + 6) (length s)) (FileLayout (at + 6)) (Ok tt) (ltb (at + 6) (length s)) refl (lt-ltb (at + 6) (length s) h) ∙ past_last

          pub judged_good : length s ≤ at + 6 → (Ok tt) ≡ file_verdict s
          judged_good h = sym (if_pass (ltb (at + 6) (length s)) (FileLayout (at + 6)) (Ok tt) (ltb (at + 6) (length s)) refl (le-ltb (at + 6) (length s) h)) ∙ past_last

-- ---- an accepted layout

pub record Good (s : List ℕ) : Type 0 where
  pub rows : Rows s (file_count s)
  pub last : is_last s (row_at s (file_count s)) ≡ true
  pub ends : length s ≡ row_at s (file_count s) + 6

last_room : (s : List ℕ) (at : ℕ) → is_last s at ≡ true → at + 6 ≤ length s
unfolding is_last
last_room s at h = let f = record_fits s at 3 0 h in omega arith

pub good : (s : List ℕ) → file_verdict s ≡ (Ok tt) → Good s
unfolding file_verdict
good s e =
    let n = file_count s in
    let at = row_at s n in
    let a = if_accepted (not (is_first s)) (FileLayout 0) (all s n) e in
    let b = at_accepted (no_row s) n (λ v. FileLayout (row_at s v)) (last s at) a.1 in
    let c = if_accepted (not (is_last s at)) (FileLayout at) (tail s at) b.1 in
    let d = if_accepted (ltb (at + 6) (length s)) (FileLayout (at + 6)) (Ok tt) c.1 in
    let l : is_last s at ≡ true = not-false (is_last s at) c.0 in
    record {
      rows = record { first = not-false (is_first s) a.0; row = λ v h. not-false (is_row s (row_at s v)) (b.0.below v h) };
      last = l;
      ends = let f = last_room s at l in let g = ltb-false (at + 6) (length s) d.0 in omega arith;
    }
