-- To be believed.
-- The order of refusals: a verdict is a chain of reasons, each before those that are judged after it.
-- Assumes nothing.
use Rattle.std.specs.Prelude.{Bool, cond, ℕ, Ok, Err}
use Rattle.mesh.specs.Search.{first, some}
use Rattle.rings.specs.declared.Refusal.{Refusal}
use Rattle.rings.specs.Refusal.{Amount, Counted, Verdict, counted}

-- refused for this reason if the test holds, else as the rest says
unfoldable pub refuse_if : Bool → Refusal → Verdict → Verdict
refuse_if test reason rest = cond test (Err reason) rest

-- refused at the lowest number below n at which the test holds, else as the rest says
unfoldable pub refuse_at : (ℕ → Bool) → ℕ → (ℕ → Refusal) → Verdict → Verdict
refuse_at test n reason rest = cond (some test n) (Err (reason (first test n))) rest

-- the second is judged where the first accepts
unfoldable pub and_then : Verdict → Verdict → Verdict
and_then (Ok u) rest = rest
and_then (Err r) rest = Err r

-- a table after a call: the new one where it is accepted, else the old one
unfoldable pub after {ℓ} : {A : Type ℓ} → Verdict → A → A → A
after (Ok u) new old = new
after (Err r) new old = old

-- the answer that carries V, E and F
unfoldable pub with_counts : Verdict → ℕ → ℕ → ℕ → Counted
with_counts (Ok u) v e f = counted v e f
with_counts (Err r) v e f = Err r

-- the answer with one number
unfoldable pub with_amount : Verdict → ℕ → Amount
with_amount (Ok u) n = Ok n
with_amount (Err r) n = Err r
