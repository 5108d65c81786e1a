-- For inside.
-- A verdict that hands on a face from its smallest corner on.
-- Assumes nothing.
use Rattle.std.specs.Prelude.{ℕ, Result, Ok, Err}
use Rattle.reshape.specs.Reshape.{from_smallest}
use Rattle.reshape_face.specs.declared.Face.{Face}
use Rattle.rings.specs.declared.Refusal.{Refusal}
use Rattle.rings.specs.Refusal.{Verdict}

-- the face named by u, v and w from its smallest corner on, where the verdict accepts it
unfoldable pub with_face : Verdict → ℕ → ℕ → ℕ → Result Face Refusal
with_face (Ok _) u v w = let c = from_smallest u v w in Ok (record { u = c.one; v = c.two; w = c.three })
with_face (Err r) u v w = Err r
