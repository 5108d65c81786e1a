-- To be believed.
-- Reason 11: a vertex of levels 1 to L whose valence or used places are not what refinement gives, or with a coordinate beyond the range.
-- Assumes nothing.
use Rattle.std.specs.Prelude.{Bool, true, false, not, ◌||◌, ◌&&◌, List, [], ◌∷◌, ℕ, ◌+◌, leb, eqb, ℤ, length}
use Rattle.steps.specs.Sizes.{sizes_of}
use Rattle.loop_step.specs.Refine.{refine, level}
use Rattle.rings.specs.Table.{Lent, valence_at, rows, ring_of}
use Rattle.rings.specs.Check.{beyond_at}
use Rattle.stack_judge.specs.Stack.{stack_count, level_of, number_in}

-- two lists are the same
abbrev pub same_list : List ℕ → List ℕ → Bool
same_list [] [] = true
same_list [] (b ∷ m) = false
same_list (a ∷ l) [] = false
same_list (a ∷ l) (b ∷ m) = eqb a b && same_list l m

-- row j of the tables is not this ring, or has a coordinate beyond the range
unfoldable pub other_than : List ℕ → Lent → List ℤ → ℕ → Bool
other_than want t ps j = not (eqb (valence_at t j) (length want) && same_list (ring_of t j) want) || beyond_at ps j

-- vertex x of the next level, in tables that begin with a level of n vertices, is not as refinement gives it
unfoldable pub strange_next : ℕ → Lent → List ℤ → ℕ → Bool
strange_next n t ps x = other_than ((refine (rows n t)).ring x) t ps (n + x)

module _ (n levels : ℕ) (t : Lent) (ps : List ℤ) where
  -- the vertices of the stack
  unfoldable pub whole : ℕ
  whole = stack_count (sizes_of n (rows n t)) levels

  -- what refinement gives for the ring of stack vertex j
  unfoldable pub wanted : ℕ → List ℕ
  wanted j = (level (rows n t) (level_of (sizes_of n (rows n t)) levels j)).ring (number_in (sizes_of n (rows n t)) levels j)

  -- stack vertex j is above level 0 and not as refinement gives it
  unfoldable pub strange : ℕ → Bool
  strange j = leb n j && other_than (wanted j) t ps j
