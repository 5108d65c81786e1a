-- What the queries answer, by the verdict of the call and by what the search of v's ring found. Assumes nothing.
use Prim.Native.Nat.{ℕ}
use mathlib.Core.Path.{◌≡◌, refl}
use mathlib.Core.Bool.{Bool, true, false, cond}
use mathlib.Core.List.{List}
use Rattle.mesh.specs.Ring.{has}
use Rattle.rings.specs.Table.{Lent, valence_at, ring_of}
use Rattle.rings.specs.Verdict.{with_amount}
use Rattle.ring_judge.specs.Judging.{call_verdict}
use Rattle.ring_beside.specs.Beside.{beside, after_in, before_in}
use Rattle.ring_beside.specs.declared.Beside.{Beside}
use Rattle.std.specs.declared.option.Option.{Option}
use Rattle.std.specs.declared.option.Option.TheVariants.{Some, None}
use Rattle.std.specs.Option.{option_map}
use Rattle.ring_query.specs.Queries.{with_answer, with_neighbour, valence_answer, contains_answer, next_answer, prev_answer}
use Rattle.rings.specs.declared.Refusal.{Refusal}
use Rattle.std.specs.Prelude.{Ok, Err}

-- the vertex of what stands beside, where something does
vertex_told : (b : Bool) (y j : ℕ) → option_map (λ (p : Beside). p.vertex) (cond b (Some (beside y j)) None) ≡ cond b (Some y) None
vertex_told true y j = refl
vertex_told false y j = refl

module _ (n : ℕ) (t : Lent) (v : ℕ) where
  pub valence_refused : (r : Refusal) → Err r ≡ call_verdict n t v → Err r ≡ valence_answer n t v
  unfolding valence_answer with_amount
  valence_refused r e = rw (← e)

  pub contains_refused : (x : ℕ) (r : Refusal) → Err r ≡ call_verdict n t v → Err r ≡ contains_answer n t v x
  unfolding contains_answer with_answer
  contains_refused x r e = rw (← e)

  pub next_refused : (x : ℕ) (r : Refusal) → Err r ≡ call_verdict n t v → Err r ≡ next_answer n t v x
  unfolding next_answer with_neighbour
  next_refused x r e = rw (← e)

  pub prev_refused : (x : ℕ) (r : Refusal) → Err r ≡ call_verdict n t v → Err r ≡ prev_answer n t v x
  unfolding prev_answer with_neighbour
  prev_refused x r e = rw (← e)

  module _ (e : (Ok tt) ≡ call_verdict n t v) where
    pub valence_told : Ok (valence_at t v) ≡ valence_answer n t v
    unfolding valence_answer with_amount
    valence_told = rw (← e)

    module _ (x : ℕ) (l : List ℕ) (p : l ≡ ring_of t v) where
      pub contains_told : (b : Bool) → b ≡ has x l → Ok b ≡ contains_answer n t v x
      unfolding contains_answer with_answer
      contains_told b q = rw (← e, ← p, ← q)

      pub next_told : {o : Option ℕ} → o ≡ option_map (λ (b : Beside). b.vertex) (after_in l x) → Ok o ≡ next_answer n t v x
      unfolding next_answer with_neighbour after_in
      next_told q = rw (← e, ← p, q, vertex_told (has x l) _ _)

      pub prev_told : {o : Option ℕ} → o ≡ option_map (λ (b : Beside). b.vertex) (before_in l x) → Ok o ≡ prev_answer n t v x
      unfolding prev_answer with_neighbour before_in
      prev_told q = rw (← e, ← p, q, vertex_told (has x l) _ _)
