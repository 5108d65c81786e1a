-- For inside.
-- What a function that writes a part of a table promises.
-- Assumes nothing.
use Rattle.std.specs.Prelude.{◌≡◌, List, ℕ, ◌+◌, ◌≤◌, length}
use Rattle.rings.specs.Table.{put, gather}

-- the block fits into the old table from a place on, and the new table is the old one with the block there
pub record Put {A : Type 0} (old : List A) (at : ℕ) (block new : List A) : Type 0 where
  pub fits : at + length block ≤ length old
  pub is : new ≡ put old at block

-- the lists f e, .., f (e + n - 1), one after the other
unfoldable pub gather_from : {A : Type 0} → (ℕ → List A) → ℕ → ℕ → List A
gather_from f e n = gather (λ j. f (e + j)) n
