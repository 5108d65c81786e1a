-- To be believed.
-- Decimal numbers in a text (order 4): whole numbers with no plus sign, no -0 and no zeros in front, each with the byte behind it.
-- Assumes nothing.
use Rattle.std.specs.Prelude.{Bool, cond, not, ◌&&◌, List, ℕ, zero, suc, ◌+◌, ◌-◌, ◌*◌, leb, ltb, eqb, ℤ, pos, negsuc, Option, Some, None, get_or}
use Rattle.mesh.specs.Search.{bit, first}
use Rattle.off_numbers.specs.declared.Number.{Number}

-- how many numbers 32 bits hold, and how many of them are not below 0
abbrev pub numbers32 : ℕ
numbers32 = 4294967296

abbrev pub positives32 : ℕ
positives32 = 2147483648

-- the longest row of digits that is looked at: no number of 32 bits has as many
abbrev pub most_digits : ℕ
most_digits = 11

module _ (s : List ℕ) where
  -- the byte at a place; past the text's end 0, which the subset does not have
  unfoldable pub byte_at : ℕ → ℕ
  byte_at at = get_or s at 0

  unfoldable pub digit_at : ℕ → Bool
  digit_at at = leb 48 (byte_at at) && leb (byte_at at) 57

  -- place i behind a place has no digit
  abbrev pub no_digit : ℕ → ℕ → Bool
  no_digit at i = not (digit_at (at + i))

  -- how many digits stand from a place on
  unfoldable pub run_at : ℕ → ℕ
  run_at at = first (no_digit at) most_digits

  -- the number that k digits from a place on give
  unfoldable pub value_of : ℕ → ℕ → ℕ
  value_of at zero = 0
  value_of at (suc k) = value_of at k * 10 + (byte_at (at + k) - 48)

  -- the number at a place
  unfoldable pub value_at : ℕ → ℕ
  value_at at = value_of at (run_at at)

  -- the place behind it and the byte that follows
  unfoldable pub after_at : ℕ → ℕ
  after_at at = at + run_at at + 1

  -- k digits from a place on begin with a zero that is not alone
  unfoldable pub padded : ℕ → ℕ → Bool
  padded at k = not (eqb k 1) && eqb (byte_at at) 48

  -- a number below a bound stands there, with no zeros in front, and this byte behind it
  unfoldable pub is_number : ℕ → ℕ → ℕ → Bool
  is_number at bound last =
      not (eqb (run_at at) 0)
      && (not (padded at (run_at at)) && (ltb (value_at at) bound && eqb (byte_at (at + run_at at)) last))

  -- a minus sign, and where the digits behind it begin
  unfoldable pub minus_at : ℕ → Bool
  minus_at at = eqb (byte_at at) 45

  abbrev pub body_at : ℕ → ℕ
  body_at at = at + bit (minus_at at)

  -- units stand there: a number of 32 bits, with a minus sign where it is below 0
  unfoldable pub is_unit : ℕ → ℕ → Bool
  is_unit at last =
      cond (minus_at at)
      (is_number (at + 1) (positives32 + 1) last && ltb 0 (value_at (at + 1)))
      (is_number at positives32 last)

  unfoldable pub unit_at : ℕ → ℤ
  unit_at at = cond (minus_at at) (negsuc (value_at (at + 1) - 1)) (pos (value_at at))

  unfoldable pub after_unit : ℕ → ℕ
  after_unit at = after_at (body_at at)

  -- what a judge finds there: the number and the place behind it, or none of that kind
  unfoldable pub number_at : ℕ → ℕ → ℕ → Option Number
  number_at at bound last = cond (is_number at bound last) (Some (record { value = value_at at; next = after_at at })) None
