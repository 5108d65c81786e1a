-- What a new vertex needs, as it is judged. Assumes nothing.
use mathlib.Core.Path.{◌≡◌}
use mathlib.Core.Bool.{Bool, true, false}
use mathlib.Core.List.{List}
use Prim.Native.Nat.{ℕ, ◌+◌, ◌≤◌, ◌<◌}
use native.Mathlib.Numerals.{add-one}
use lib.IntN.{ℤ}
use borrow.Author.Tests.{le-leb, lt-leb}
use Rattle.mesh.specs.Limits.{most_count}
use Rattle.rings.specs.Table.{Lent, rows}
use Rattle.rings.specs.Verdict.{refuse_if}
use Rattle.rings.specs.Check.{short_tables}
use Rattle.rings.specs.declared.Refusal.TheVariants.{NoRoom, RingFull}
use Rattle.reshape.specs.Reshape.{no_number}
use Rattle.reshape_tables.specs.Calls.{new_verdict}
use Rattle.std.specs.Prelude.{Ok, Err}

module _ (n : ℕ) (t : Lent) (ps : List ℤ) where
  pub no_number_lem : most_count ≤ n → Err RingFull ≡ new_verdict n t ps
  unfolding new_verdict no_number rows refuse_if
  no_number_lem h = rw (le-leb most_count n h)

  module _ (h : n < most_count) (b : Bool) (e : b ≡ short_tables (n + 1) t ps) where
    pub no_room : b ≡ true → Err NoRoom ≡ new_verdict n t ps
    unfolding new_verdict no_number rows refuse_if
    no_room z = rw (lt-leb most_count n h, ← add-one n, ← e, z)

    pub room_for_one : b ≡ false → Ok tt ≡ new_verdict n t ps
    unfolding new_verdict no_number rows refuse_if
    room_for_one z = rw (lt-leb most_count n h, ← add-one n, ← e, z)
