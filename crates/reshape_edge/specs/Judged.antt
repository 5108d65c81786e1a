-- For inside.
-- An edge found in tables that passed the check, and a verdict that hands it on.
-- Assumes nothing.
use Rattle.std.specs.Prelude.{◌≡◌, ℕ, ◌<◌, min, max, Result, Ok, Err}
use Rattle.mesh.specs.Mesh.{Mesh}
use Rattle.mesh.specs.Ring.{◌∈◌, next, prev}
use Rattle.rings.specs.Table.{Lent, ring_of}
use Rattle.reshape.specs.Reshape.{beyond, behind}
use Rattle.reshape_room.specs.Checked.{Checked}
use Rattle.reshape_edge.specs.declared.Edge.{Edge}
use Rattle.rings.specs.declared.Refusal.{Refusal}
use Rattle.rings.specs.Refusal.{Verdict}

-- p and q are an edge of checked tables, with a after q in p and b before it
pub record EdgeFound (n : ℕ) (t : Lent) (p q a b : ℕ) : Type 0 where
  pub checked : Checked n t
  pub p_lt : p < n
  pub q_lt : q < n
  pub there : q ∈ ring_of t p
  pub a_is : a ≡ next (ring_of t p) q
  pub b_is : b ≡ prev (ring_of t p) q

-- the edge named by u and v with the vertices beside it, where the verdict accepts it
unfoldable pub with_edge : Verdict → Mesh → ℕ → ℕ → Result Edge Refusal
with_edge (Ok _) M u v = let p = min u v in let q = max u v in Ok (record { p = p; q = q; a = beyond M p q; b = behind M p q })
with_edge (Err r) M u v = Err r
