-- To be believed.
-- The stack (document 01, "Tables and numbers"): the levels lie one right after the other in the same tables,
-- so the sizes of level 0 alone say where each begins.
-- Assumes nothing.
use Rattle.std.specs.Prelude.{Bool, ◌||◌, List, ℕ, zero, suc, ◌-◌, ◌*◌, ltb, ℤ, length}
use Rattle.mesh.specs.Limits.{least_levels, most_levels, most_vertices, most_valence}
use Rattle.mesh.specs.Search.{sum, find}
use Rattle.steps.specs.Sizes.{Sizes}
use Rattle.loop_step.specs.Loop.{loop_sizes}
use Rattle.rings.specs.Table.{Lent}

-- the sizes of level k, from those of level 0
abbrev pub sizes_at : Sizes → ℕ → Sizes
sizes_at s zero = s
sizes_at s (suc k) = loop_sizes (sizes_at s k)

-- the edges of level k
abbrev pub level_edges : Sizes → ℕ → ℕ
level_edges s k = (sizes_at s k).edges

-- the vertices of level k
abbrev pub level_count : Sizes → ℕ → ℕ
level_count s k = (sizes_at s k).vertices

-- where level k begins: how many vertices the levels before it have
unfoldable pub level_start : Sizes → ℕ → ℕ
level_start s k = sum (level_count s) k

-- how many vertices levels 0 to L have together
unfoldable pub stack_count : Sizes → ℕ → ℕ
stack_count s levels = level_start s (suc levels)

-- the level that stack vertex j belongs to
unfoldable pub level_of : Sizes → ℕ → ℕ → ℕ
level_of s levels j = find (level_start s) j (suc levels)

-- the number of stack vertex j in its level
unfoldable pub number_in : Sizes → ℕ → ℕ → ℕ
number_in s levels j = j - level_start s (level_of s levels j)

-- reason 8: the number of levels is none of 1 to 4
unfoldable pub bad_levels : ℕ → Bool
bad_levels levels = ltb levels least_levels || ltb most_levels levels

-- reason 9, of one level: it has over 65,535 vertices
unfoldable pub too_large : Sizes → ℕ → Bool
too_large s k = ltb most_vertices (level_count s k)

-- reason 10: a table has no room for n vertices
unfoldable pub short_stack : ℕ → Lent → List ℤ → Bool
short_stack n t ps = ltb (length t.valences) n || (ltb (length t.rings) (n * most_valence) || ltb (length ps) (n * 3))
