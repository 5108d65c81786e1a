-- A struct that says on paper what an answer says. Assumes nothing.
use Prim.Native.Nat.{ℕ}
use mathlib.Core.Path.{◌≡◌, refl, ap, ◌∙◌}
use Rattle.rings.specs.Refusal.{Paper, refused, number_of, place_of, reason}
use Rattle.rings.specs.declared.Refusal.{Refusal}
use Rattle.rings.specs.Paper.{paper_amount}
use Rattle.mesh.specs.Limits.{null_vertex}
use Rattle.ring_query.specs.Paper.{paper_neighbour}
use Rattle.std.specs.Prelude.{Ok}
use Rattle.std.specs.Option.{unwrap_or}
use Rattle.std.specs.declared.option.Option.{Option}
use Rattle.std.specs.declared.option.Option.TheVariants.{Some, None}

-- what says the same as an answer says the same as an equal answer
pub through : {A : Type 0} (paper : A → Paper) {p : Paper} {r s : A} → p ≡ paper r → r ≡ s → p ≡ paper s
through paper e h = e ∙ ap paper h

-- number and place of a refusal, and what stands in place of a value
pub as_refused : (r : Refusal) (d : ℕ) {number place : ℕ} → number ≡ number_of r → place ≡ place_of r → refused number place d ≡ reason r d
as_refused r d e f = rw (e, f)

-- a neighbour, or the null vertex where there is none
pub or_null : (o : Option ℕ) {x : ℕ} → x ≡ unwrap_or o null_vertex → paper_amount (Ok x) ≡ paper_neighbour (Ok o)
or_null (Some y) e = rw e refl
or_null None e = rw e refl
