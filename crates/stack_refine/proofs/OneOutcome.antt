-- What `refine` promises settles everything: for one input, two outcomes that its contract allows are equal, in answer and tables. Assumes nothing.
use mathlib.Core.Path.{◌≡◌, sym, ◌∙◌}
use mathlib.Core.List.{List}
use Prim.Native.Nat.{ℕ}
use lib.IntN.{ℤ}
use Rattle.rings.specs.Table.{Lent, lent}
use Rattle.stack_refine.specs.Refinement.{refine_answer, refine_valences, refine_rings, refine_positions}
use Rattle.rings.specs.Refusal.{Counted}

-- the answer and the tables after the call are as the contract says
pub record Outcome (n levels : ℕ) (t : Lent) (ps : List ℤ) (answer : Counted) (t' : Lent) (ps' : List ℤ) : Type 0 where
  pub answered : answer ≡ refine_answer n levels t ps
  pub valences : t'.valences ≡ refine_valences n levels t ps
  pub rings : t'.rings ≡ refine_rings n levels t ps
  pub positions : ps' ≡ refine_positions n levels t ps

pub one_outcome : (n levels : ℕ) (t : Lent) (ps : List ℤ) (a b : Counted) (v r v' r' : List ℕ) (p p' : List ℤ)
    → Outcome n levels t ps a (lent v r) p → Outcome n levels t ps b (lent v' r') p' → (a ≡ b) × ((v ≡ v') × ((r ≡ r') × (p ≡ p')))
one_outcome n levels t ps a b v r v' r' p p' x y =
    (x.answered ∙ sym y.answered, (x.valences ∙ sym y.valences, (x.rings ∙ sym y.rings, x.positions ∙ sym y.positions)))
