-- What is found at a place, where the record reader advances to from there, and what is known of a record that is there whole. Assumes nothing.
use Prim.Native.Nat.{ℕ, ◌+◌, ◌≤◌, ◌<◌}
use mathlib.Core.Path.{◌≡◌, refl, sym, ap, ◌∙◌}
use mathlib.Core.Bool.{Bool, true, false, cond, ◌&&◌}
use mathlib.Core.List.{List}
use native.Mathlib.Omega.{arith}
use borrow.Author.Tests.{le-leb, lt-leb, leb-true, eq-eqb, eqb-true}
use lib.Dec.{eqb}
use lib.ListN.{length}
use Rattle.std.specs.Prelude.{Option, None, Some, MatchOption}
use Rattle.mesh.proofs.First.{true_not_false}
use Rattle.file_format.specs.Bytes.{number_at, length_at, kind_at, after_at, whole_at}
use Rattle.file_format.specs.Records.{found_at, past_at}
use Rattle.file_format.specs.Layout.{record_at}
use Rattle.file_format.specs.declared.Record.{Record}

pub and_both : (a b : Bool) → (a && b) ≡ true → (a ≡ true) × (b ≡ true)
and_both true b e = (refl, e)
and_both false b e = absurd (true_not_false e refl)

module _ (s : List ℕ) (at : ℕ) where
  -- ---- what `record_at` returns

  cut : whole_at s at ≡ false → None ≡ found_at s at
  unfolding found_at
  cut e = rw e

  pub cut_head : length s < at + 6 → None ≡ found_at s at
  unfolding whole_at after_at
  cut_head h = cut (lt-leb (after_at s at) (length s) (omega arith))

  pub cut_payload : (n : ℕ) → n ≡ number_at s at 4 → length s < at + 6 + n → None ≡ found_at s at
  unfolding whole_at after_at length_at
  cut_payload n e h = cut (lt-leb (after_at s at) (length s) (omega arith))

  pub found_whole : (kind n : ℕ) → kind ≡ number_at s (at + 4) 2 → n ≡ number_at s at 4 → at + 6 + n ≤ length s → Some (record { kind = kind; length = n; next = at + 6 + n }) ≡ found_at s at
  unfolding found_at whole_at after_at length_at kind_at
  found_whole kind n d e h = rw (d, e, le-leb (at + 6 + number_at s at 4) (length s) (omega arith))

  -- ---- what its callers learn

  -- a record as it is found is one of its kind and length
  abbrev matches : Option Record → ℕ → ℕ → Bool
  matches (Some r) wanted size = eqb r.kind wanted && eqb r.length size
  matches None wanted size = false

  by_test : (whole : Bool) (wanted size : ℕ)
      → (whole && (eqb (kind_at s at) wanted && eqb (length_at s at) size)) ≡ matches (cond whole (Some (record { kind = kind_at s at; length = length_at s at; next = after_at s at })) None) wanted size
  by_test true wanted size = refl
  by_test false wanted size = refl

  matching : (wanted size : ℕ) → record_at s at wanted size ≡ matches (found_at s at) wanted size
  unfolding found_at
  matching wanted size = by_test (whole_at s at) wanted size

  pub by_found : (wanted size : ℕ) (f : Option Record) → f ≡ found_at s at → matches f wanted size ≡ record_at s at wanted size
  by_found wanted size f e = ap (λ (x : Option Record). matches x wanted size) e ∙ sym (matching wanted size)

  -- the place behind a record as it is found
  abbrev behind : Option Record → ℕ
  behind (Some r) = r.next
  behind None = at

  past_test : (whole : Bool) → cond whole (after_at s at) at ≡ behind (cond whole (Some (record { kind = kind_at s at; length = length_at s at; next = after_at s at })) None)
  past_test true = refl
  past_test false = refl

  past_found : (f : Option Record) → f ≡ found_at s at → behind f ≡ past_at s at
  unfolding found_at past_at
  past_found f e = ap behind e ∙ sym (past_test (whole_at s at))

  -- what a closure says of the record that is found
  pub told_past : (P : Record → Type 0) (o : Option Record) (k : ℕ) → o ≡ found_at s at → MatchOption o (k ≡ at) P → ((r : Record) → P r → k ≡ r.next) → k ≡ past_at s at
  told_past P None k e h says = h ∙ past_found None e
  told_past P (Some r) k e h says = says r h ∙ past_found (Some r) e

  pub past_whole : whole_at s at ≡ true → past_at s at ≡ after_at s at
  unfolding past_at
  past_whole e = rw e

  -- ---- a whole record

  module _ (kind n : ℕ) (e : record_at s at kind n ≡ true) where
    pub record_whole : whole_at s at ≡ true
    record_whole = (and_both (whole_at s at) (eqb (kind_at s at) kind && eqb (length_at s at) n) e).0

    record_rest : (eqb (kind_at s at) kind && eqb (length_at s at) n) ≡ true
    record_rest = (and_both (whole_at s at) (eqb (kind_at s at) kind && eqb (length_at s at) n) e).1

    pub record_kind : kind_at s at ≡ kind
    record_kind = eqb-true (kind_at s at) kind (and_both (eqb (kind_at s at) kind) (eqb (length_at s at) n) record_rest).0

    pub record_length : length_at s at ≡ n
    record_length = eqb-true (length_at s at) n (and_both (eqb (kind_at s at) kind) (eqb (length_at s at) n) record_rest).1

    pub record_after : after_at s at ≡ at + 6 + n
    unfolding after_at
    record_after = ap (λ (k : ℕ). at + 6 + k) record_length

    pub record_fits : at + 6 + n ≤ length s
    unfolding whole_at
    record_fits = let a = record_after in let b = leb-true (after_at s at) (length s) record_whole in omega arith

  -- and the other way round
  pub record_is : (kind n : ℕ) → kind_at s at ≡ kind → length_at s at ≡ n → at + 6 + n ≤ length s → record_at s at kind n ≡ true
  unfolding whole_at after_at
  record_is kind n d e h = rw (le-leb (at + 6 + length_at s at) (length s) (omega arith), eq-eqb (kind_at s at) kind d, eq-eqb (length_at s at) n e)
