-- For inside.
-- What is known of the tables once an edit of the mesh is accepted: which entries stand in which rings, and which vertices differ.
-- Assumes nothing.
use Rattle.std.specs.Prelude.{◌≢◌, ℕ, ◌<◌}
use Rattle.mesh.specs.Limits.{most_count}
use Rattle.rings.specs.Table.{Lent}
use Rattle.ring_row.specs.Places.{Editable}
use Rattle.reshape_entry.specs.Ready.{Ready}

-- four vertices that differ
pub record Four (p q a b : ℕ) : Type 0 where
  pub p_q : p ≢ q
  pub p_a : p ≢ a
  pub p_b : p ≢ b
  pub q_a : q ≢ a
  pub q_b : q ≢ b
  pub a_b : a ≢ b

-- the edge p, q with a and b beside it, which have room for one entry more; all four are below n
pub record EdgeReady (n : ℕ) (t : Lent) (p q a b : ℕ) : Type 0 where
  pub at_p : Ready 0 t p q
  pub at_q : Ready 0 t q p
  pub at_a : Ready 1 t a p
  pub at_b : Ready 1 t b q
  pub apart : Four p q a b
  pub p_lt : p < n
  pub q_lt : q < n
  pub a_lt : a < n
  pub b_lt : b < n

-- the face u, v, w, whose corners have room for one entry more; all three are below n
pub record FaceReady (n : ℕ) (t : Lent) (u v w : ℕ) : Type 0 where
  pub at_u : Ready 1 t u w
  pub at_v : Ready 1 t v u
  pub at_w : Ready 1 t w v
  pub u_v : u ≢ v
  pub u_w : u ≢ w
  pub v_w : v ≢ w
  pub u_lt : u < n
  pub v_lt : v < n
  pub w_lt : w < n

-- a number and a row for the new vertex x
pub record NewReady (t : Lent) (x : ℕ) : Type 0 where
  pub row : Editable t x
  pub number : x < most_count
