-- To be believed.
-- The queries of one vertex's ring (document 01, "Ring rules"): they judge as an erase does, and they write nothing.
-- Assumes nothing.
use Rattle.std.specs.Prelude.{Bool, cond, ℕ, Result, Ok, Err}
use Rattle.std.specs.declared.option.Option.{Option}
use Rattle.std.specs.declared.option.Option.TheVariants.{Some, None}
use Rattle.rings.specs.declared.Refusal.{Refusal}
use Rattle.mesh.specs.Ring.{has, next, prev}
use Rattle.rings.specs.Table.{Lent, valence_at, ring_of}
use Rattle.rings.specs.Verdict.{with_amount}
use Rattle.ring_judge.specs.Judging.{call_verdict}
use Rattle.rings.specs.Refusal.{Amount, Verdict}

-- is x there
abbrev pub Answer : Type 0
Answer = Result Bool Refusal

-- which vertex is next to x, if x is there
abbrev pub Neighbour : Type 0
Neighbour = Result (Option ℕ) Refusal

-- yes or no, where the call is accepted
unfoldable pub with_answer : Verdict → Bool → Answer
with_answer (Ok u) b = Ok b
with_answer (Err r) b = Err r

-- the vertex x or none, where the call is accepted
unfoldable pub with_neighbour : Verdict → Bool → ℕ → Neighbour
with_neighbour (Ok u) b x = Ok (cond b (Some x) None)
with_neighbour (Err r) b x = Err r

module _ (n : ℕ) (t : Lent) (v : ℕ) where
  -- the valence of v
  unfoldable pub valence_answer : Amount
  valence_answer = with_amount (call_verdict n t v) (valence_at t v)

  -- is x in v's ring
  unfoldable pub contains_answer : ℕ → Answer
  contains_answer x = with_answer (call_verdict n t v) (has x (ring_of t v))

  -- the vertex after x in v's ring
  unfoldable pub next_answer : ℕ → Neighbour
  next_answer x = with_neighbour (call_verdict n t v) (has x (ring_of t v)) (next (ring_of t v) x)

  -- the vertex before x in v's ring
  unfoldable pub prev_answer : ℕ → Neighbour
  prev_answer x = with_neighbour (call_verdict n t v) (has x (ring_of t v)) (prev (ring_of t v) x)
