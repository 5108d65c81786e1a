-- For inside.
-- What the scanner of digits promises, and what those rely on who read a number again.
-- Assumes nothing.
use Rattle.std.specs.Prelude.{◌≡◌, true, List, ℕ, ◌<◌}
use Rattle.off_numbers.specs.Text.{run_at, value_at, is_number, is_unit}

-- so many digits stand from a place on, and this is their value
pub record Digits (s : List ℕ) (at count value : ℕ) : Type 0 where
  pub run : count ≡ run_at s at
  pub worth : value ≡ value_at s at

-- a number stands at a place, and the byte behind it is below the digits and not 0
pub record NumberThere (s : List ℕ) (at : ℕ) : Type 0 where
  pub bound : ℕ
  pub last : ℕ
  pub positive : 0 < last
  pub low : last < 48
  pub good : is_number s at bound last ≡ true

-- units stand at a place, and the byte behind them is below the digits and not 0
pub record UnitThere (s : List ℕ) (at : ℕ) : Type 0 where
  pub last : ℕ
  pub positive : 0 < last
  pub low : last < 48
  pub good : is_unit s at last ≡ true
