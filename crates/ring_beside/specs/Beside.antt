-- For inside.
-- next(x in l) and prev(x in l) (document 01, "Ring rules") with the place where each stands, or absence by name.
-- Assumes nothing.
use Rattle.std.specs.Prelude.{cond, List, ℕ, length}
use Rattle.mesh.specs.Ring.{has, place, place_after, place_before, next, prev}
use Rattle.ring_beside.specs.declared.Beside.{Beside}
use Rattle.std.specs.declared.option.Option.{Option}
use Rattle.std.specs.declared.option.Option.TheVariants.{Some, None}

-- a vertex and its place
abbrev pub beside : ℕ → ℕ → Beside
beside x i = record { vertex = x; place = i }

-- what follows x
unfoldable pub after_in : List ℕ → ℕ → Option Beside
after_in l x = cond (has x l) (Some (beside (next l x) (place_after (length l) (place x l)))) None

-- what precedes x
unfoldable pub before_in : List ℕ → ℕ → Option Beside
before_in l x = cond (has x l) (Some (beside (prev l x) (place_before (length l) (place x l)))) None
