-- To be believed.
-- The numbers of document 01's section "Tables and numbers", each named once.
-- Assumes nothing.
use Rattle.std.specs.Prelude.{true, false, ℕ, pos, Float}
use Rattle.std.specs.Float.{fin}

-- the least V of a control mesh
abbrev pub least_count : ℕ
least_count = 4

-- the greatest V of a control mesh
abbrev pub most_count : ℕ
most_count = 1024

-- the least valence in a sound mesh
abbrev pub least_valence : ℕ
least_valence = 3

-- the greatest valence, and the places of a row
abbrev pub most_valence : ℕ
most_valence = 32

-- the fewest levels that may be asked for
abbrev pub least_levels : ℕ
least_levels = 1

-- the most levels that may be asked for
abbrev pub most_levels : ℕ
most_levels = 4

-- the most vertices of a level
abbrev pub most_vertices : ℕ
most_vertices = 65535

-- no stack has more vertices than this; places in its tables are worked out from numbers up to it
abbrev pub stack_bound : ℕ
stack_bound = 1048576

-- a place of a ring holds numbers below this
abbrev pub place_bound : ℕ
place_bound = 65536

-- a place of a valence, of 16 bits whatever a ring's has, holds numbers below this
abbrev pub valence_bound : ℕ
valence_bound = 65536

-- no E is over this: half of what the valences of a control mesh can add up to
abbrev pub edge_bound : ℕ
edge_bound = 33554432

-- the number that stands for no vertex
abbrev pub null_vertex : ℕ
null_vertex = 65535

-- how far a coordinate may lie from 0, either way
abbrev pub most_units : ℕ
most_units = 1048576

-- units in a millimetre
abbrev pub units_in_millimetre : ℕ
units_in_millimetre = 1024

-- the least result of a move, -1 * 2 ^ 10 millimetres
abbrev pub low_millimetres : Float
low_millimetres = fin true 1 (pos 10)

-- the greatest result of a move, 1 * 2 ^ 10 millimetres
abbrev pub high_millimetres : Float
high_millimetres = fin false 1 (pos 10)

-- the longest list of moves
abbrev pub most_moves : ℕ
most_moves = 64

-- the longest input of the listing program, in bytes
abbrev pub listing_bytes : ℕ
listing_bytes = 16384

-- the stack vertices that its tables have room for
abbrev pub listing_vertices : ℕ
listing_vertices = 256
