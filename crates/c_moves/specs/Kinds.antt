-- For inside.
-- The kinds of a move, and their numbers: 0 is a placing, 1 a shift, 2 a stretch.
-- Assumes nothing.
use Rattle.std.specs.Prelude.{◌≡◌, ℕ, ◌<◌, Result, MatchResult}
use Rattle.c_moves.specs.declared.kinds.Kind.{Kind}
use Rattle.c_moves.specs.declared.kinds.Kind.TheVariants.{Place, Shift, Stretch}
use Rattle.c_moves.specs.declared.kinds.UnknownKind.{UnknownKind}

-- the number that stands for a kind
abbrev pub number_of : Kind → ℕ
number_of Place = 0
number_of Shift = 1
number_of Stretch = 2

-- the kind that a number stands for, or that it is none's
abbrev pub Decodes : ℕ → Result Kind UnknownKind → Type 0
Decodes number r = MatchResult r (λ kind. number_of kind ≡ number) (λ _. 2 < number)
