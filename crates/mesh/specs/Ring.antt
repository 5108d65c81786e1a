-- To be believed.
-- Rings as circular lists (document 01, "Ring rules"): places, absence, what follows and precedes an entry, and rings that are
-- the same up to where they begin.
-- Assumes nothing.
use Rattle.std.specs.Prelude.{◌≡◌, Bool, cond, ◌&&◌, List, [], ◌∷◌, ◌++◌, ℕ, suc, ◌+◌, ◌-◌, ◌≤◌, ◌<◌, eqb, ltb, length, get_or, take, drop}
use Rattle.mesh.specs.Search.{bit}
use Rattle.std.specs.declared.option.Option.{Option}
use Rattle.std.specs.declared.option.Option.TheVariants.{Some, None}

-- how often x stands in the list
abbrev pub times : ℕ → List ℕ → ℕ
times x [] = 0
times x (a ∷ l) = bit (eqb x a) + times x l

-- x is there
infix 50 ◌∈◌
abbrev pub ◌∈◌ : ℕ → List ℕ → Type 0
x ∈ l = 0 < times x l

-- x is there, as a test
unfoldable pub has : ℕ → List ℕ → Bool
has x l = ltb 0 (times x l)

-- no number stands there twice
abbrev pub Distinct : List ℕ → Type 0
Distinct l = (x : ℕ) → times x l ≤ 1

-- the first place at which x stands, or the length where x is absent
abbrev pub place : ℕ → List ℕ → ℕ
place x [] = 0
place x (a ∷ l) = cond (eqb x a) 0 (suc (place x l))

-- the place of x, or its absence by name
unfoldable pub place_of : ℕ → List ℕ → Option ℕ
place_of x l = cond (has x l) (Some (place x l)) None

-- the place after place i of a circular list of n
unfoldable pub place_after : ℕ → ℕ → ℕ
place_after n i = cond (eqb (suc i) n) 0 (suc i)

-- the place before place i of a circular list of n
unfoldable pub place_before : ℕ → ℕ → ℕ
place_before n i = cond (eqb i 0) (n - 1) (i - 1)

-- next(x in l), asked only of an x that is there
unfoldable pub next : List ℕ → ℕ → ℕ
next l x = get_or l (place_after (length l) (place x l)) 0

-- prev(x in l), asked only of an x that is there
unfoldable pub prev : List ℕ → ℕ → ℕ
prev l x = get_or l (place_before (length l) (place x l)) 0

-- x is there, and next(x in l) is y
abbrev pub Follows : List ℕ → ℕ → ℕ → Type 0
Follows l x y = (x ∈ l) × (next l x ≡ y)

-- the same as a test
unfoldable pub follows : List ℕ → ℕ → ℕ → Bool
follows l x y = has x l && eqb (next l x) y

-- m is l read from one of its places on, and round
pub record SameRound (l m : List ℕ) : Type 0 where
  pub start : ℕ
  pub within : start ≤ length l
  pub turned : m ≡ drop start l ++ take start l
