-- To be believed.
-- One coordinate of a refined point, from the coordinates below: the two formulas of section "Refinement, one level".
-- Assumes nothing.
use Rattle.std.specs.Prelude.{cond, List, [], ◌∷◌, ℕ, ◌*◌, eqb, ℤ, pos, ◌+ℤ◌, ◌*ℤ◌}
use Rattle.steps.specs.Round.{rounded}

-- the new vertex of edge p, q, between a and b: (3(p + q) + a + b) / 8
unfoldable pub edge_point : ℤ → ℤ → ℤ → ℤ → ℤ
edge_point p q a b = rounded (pos 3 *ℤ (p +ℤ q) +ℤ a +ℤ b) 8

-- the old vertex v of valence n with neighbours that add to s: (7v + 3s) / 16 where n is 3, and (5nv + 3s) / 8n elsewhere
unfoldable pub vertex_point : ℕ → ℤ → ℤ → ℤ
vertex_point n v s = cond (eqb n 3) (rounded (pos 7 *ℤ v +ℤ pos 3 *ℤ s) 16) (rounded (pos (5 * n) *ℤ v +ℤ pos 3 *ℤ s) (8 * n))

-- that sum s, over a ring
abbrev pub ring_sum : (ℕ → ℤ) → List ℕ → ℤ
ring_sum at [] = pos 0
ring_sum at (u ∷ ring) = at u +ℤ ring_sum at ring
