-- The first unfit vertex, where one was known or the rows are searched for it. Assumes nothing.
use mathlib.Core.Path.{◌≡◌, ap}
use mathlib.Core.List.{List}
use Prim.Native.Nat.{ℕ, ◌+◌, ◌≤◌, ◌<◌}
use borrow.Author.Tests.{lt-ltb, le-ltb}
use Rattle.mesh.specs.Search.{first}
use Rattle.mesh.proofs.First.{some_lt, some_not}
use Rattle.off_judge.specs.Judging.{unfit_at, unfit_from}

-- the first unfit vertex in each of three cases
module _ (counts : List ℕ) (v rows known count : ℕ) where
  pub unfit_known : known < count → known ≡ unfit_from counts v rows known count
  unfolding unfit_from
  unfit_known h = rw (lt-ltb known count h)

  module _ {j : ℕ} (a : count ≤ known) (e : j ≡ first (unfit_at counts) rows) where
    pub unfit_found : j < rows → v + j ≡ unfit_from counts v rows known count
    unfolding unfit_from
    unfit_found h = rw (le-ltb known count a, some_lt (unfit_at counts) e h) (ap (λ i. v + i) e)

    pub unfit_none : rows ≤ j → count ≡ unfit_from counts v rows known count
    unfolding unfit_from
    unfit_none h = rw (le-ltb known count a, some_not (unfit_at counts) e h)
