-- What a list of records answers, by the kind of the record at the answer's place. Assumes nothing.
use Prim.Native.Nat.{ℕ, ◌≤◌}
use mathlib.Core.Path.{◌≡◌, refl, sym, ap, ◌∙◌}
use mathlib.Core.Bool.{Bool, true, false, ◌&&◌}
use mathlib.Core.Logic.{◌≢◌}
use mathlib.Core.List.{List}
use native.Mathlib.Omega.{arith}
use borrow.Author.Tests.{ne_eqb, le-ltb}
use lib.Dec.{ltb}
use lib.Ieee.{nan}
use lib.ListN.{length, get_or, get_or-map, get_or-eq_default}
use Rattle.rings.specs.Refusal.{Paper}
use Rattle.c_moves.specs.Records.{by_kind, by_kinds}
use Rattle.c_moves.specs.declared.MoveRecord.{MoveRecord}

and_false : (b : Bool) → b && false ≡ false
and_false true = refl
and_false false = refl

-- only the answer 3 depends on the kind, and a known kind leaves it
module _ (kind : ℕ) (p : Paper) where
  another_number : p.number ≢ 3 → by_kind kind p ≡ p
  unfolding by_kind
  another_number e = rw (ne_eqb p.number 3 e, and_false (ltb 2 kind))

  known_kind : kind ≤ 2 → by_kind kind p ≡ p
  unfolding by_kind
  known_kind h = rw (le-ltb 2 kind h)

-- what would stand past the end of a list
abbrev pub no_record : MoveRecord
no_record = record { vertex = 0; kind = 0; x = nan; y = nan; z = nan }

module _ (list : List MoveRecord) (p : Paper) where
  -- at a record
  pub by_record : by_kinds list p ≡ by_kind (get_or list p.place no_record).kind p
  unfolding by_kinds
  by_record = ap (λ (kind : ℕ). by_kind kind p) (get_or-map (λ (r : MoveRecord). r.kind) list p.place no_record)

  -- another answer
  pub by_number : p.number ≢ 3 → by_kinds list p ≡ p
  unfolding by_kinds
  by_number = another_number _ p

  -- past the end
  pub by_none : length list ≤ p.place → by_kinds list p ≡ p
  by_none h = by_record ∙ ap (λ (r : MoveRecord). by_kind r.kind p) (get_or-eq_default list no_record h) ∙ known_kind 0 p (omega arith)

  -- the same, from the answer's side
  pub no_record_lem : length list ≤ p.place → p ≡ by_kinds list p
  no_record_lem h = sym (by_none h)

-- what stands at the answer's place
pub ruleset at_place = (by_record, by_number, by_none)
