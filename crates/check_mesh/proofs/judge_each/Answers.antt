-- `judge_each` meets its contract. Assumes nothing.
use Prim.Native.Nat.{ℕ}
use mathlib.Core.Path.{◌≡◌, sym, ◌∙◌}
use mathlib.Core.Bool.{false}
use mathlib.Core.List.{List}
use lib.IntN.{ℤ}
use Rattle.mesh.specs.Tests.{one_sided, open_faced}
use Rattle.rings.specs.Table.{Lent, lent, rows}
use Rattle.rings.specs.Verdict.{refuse_at}
use Rattle.rings.specs.Check.{bad_count, short_tables, unfit_row, beyond_at, check_verdict}
use Rattle.rings.specs.Accepts.{Fit}
use Rattle.rings.specs.declared.Refusal.TheVariants.{RingImproper, NotMutual, NotTriangle, ControlCoordinate}
use Rattle.rings.proofs.Verdicts.{if_clear, at_hit, at_pass}
use Rattle.rings.proofs.Checks.{long_tables, fit_from}
use Rattle.rings.specs.Refusal.{Verdict}
use Rattle.std.specs.Prelude.{Ok}
use Rattle.check_mesh.proofs.judge_each.Goals as goal

-- what is left of the verdict before each reason
abbrev from7 : ℕ → List ℤ → Verdict
from7 n ps = refuse_at (beyond_at ps) n ControlCoordinate (Ok tt)

abbrev from6 : ℕ → Lent → List ℤ → Verdict
from6 n t ps = refuse_at (open_faced (rows n t)) n NotTriangle (from7 n ps)

abbrev from5 : ℕ → Lent → List ℤ → Verdict
from5 n t ps = refuse_at (one_sided (rows n t)) n NotMutual (from6 n t ps)

abbrev from4 : ℕ → Lent → List ℤ → Verdict
from4 n t ps = refuse_at (unfit_row n t) n RingImproper (from5 n t ps)

from_start : (n : ℕ) (t : Lent) (ps : List ℤ) → bad_count n ≡ false → short_tables n t ps ≡ false → from4 n t ps ≡ check_verdict n t ps
unfolding check_verdict
from_start n t ps a b = sym (if_clear _ _ _ a ∙ if_clear _ _ _ b)

pub first_unfit-unfit-requires : goal.first_unfit-unfit-requires
first_unfit-unfit-requires c = (long_tables _ _ _ c.requires.positions_value).0

pub returns-then-unfit-count : goal.returns-then-unfit-count
returns-then-unfit-count c =
    at_hit _ _ _ _ _ c.first_unfit-unfit.ensures c.if-unfit-count.true ∙ from_start _ _ _ c.requires.count_value c.requires.positions_value

pub first_one_sided-lone-requires : goal.first_one_sided-lone-requires
first_one_sided-lone-requires c =
    let n : ℕ = c.args.count in
    let t : Lent = lent c.args.valences.now c.args.rings.now in
    let fit : Fit n t = fit_from _ _ (long_tables _ _ _ c.requires.positions_value).0 _ c.first_unfit-unfit.ensures c.if-unfit-count.false in
    fit

pub returns-then-lone-count : goal.returns-then-lone-count
returns-then-lone-count c =
    let n : ℕ = c.args.count in
    let t : Lent = lent c.args.valences.now c.args.rings.now in
    let ps : List ℤ = c.args.positions.now in
    let past1 : from5 n t ps ≡ check_verdict n t ps = sym (at_pass _ _ _ _ _ c.first_unfit-unfit.ensures c.if-unfit-count.false) ∙ from_start _ _ _ c.requires.count_value c.requires.positions_value in
    at_hit _ _ _ _ _ c.first_one_sided-lone.ensures c.if-lone-count.true ∙ past1

pub first_open-open-requires : goal.first_open-open-requires
first_open-open-requires c =
    let n : ℕ = c.args.count in
    let t : Lent = lent c.args.valences.now c.args.rings.now in
    let fit : Fit n t = fit_from _ _ (long_tables _ _ _ c.requires.positions_value).0 _ c.first_unfit-unfit.ensures c.if-unfit-count.false in
    fit

pub returns-then-open-count : goal.returns-then-open-count
returns-then-open-count c =
    let n : ℕ = c.args.count in
    let t : Lent = lent c.args.valences.now c.args.rings.now in
    let ps : List ℤ = c.args.positions.now in
    let past1 : from5 n t ps ≡ check_verdict n t ps = sym (at_pass _ _ _ _ _ c.first_unfit-unfit.ensures c.if-unfit-count.false) ∙ from_start _ _ _ c.requires.count_value c.requires.positions_value in
    let past2 : from6 n t ps ≡ check_verdict n t ps = sym (at_pass _ _ _ _ _ c.first_one_sided-lone.ensures c.if-lone-count.false) ∙ past1 in
    at_hit _ _ _ _ _ c.first_open-open.ensures c.if-open-count.true ∙ past2

pub judge_positions-requires : goal.judge_positions-requires
judge_positions-requires c = (long_tables _ _ _ c.requires.positions_value).1

pub returns : goal.returns
returns c =
    let n : ℕ = c.args.count in
    let t : Lent = lent c.args.valences.now c.args.rings.now in
    let ps : List ℤ = c.args.positions.now in
    let past1 : from5 n t ps ≡ check_verdict n t ps = sym (at_pass _ _ _ _ _ c.first_unfit-unfit.ensures c.if-unfit-count.false) ∙ from_start _ _ _ c.requires.count_value c.requires.positions_value in
    let past2 : from6 n t ps ≡ check_verdict n t ps = sym (at_pass _ _ _ _ _ c.first_one_sided-lone.ensures c.if-lone-count.false) ∙ past1 in
    let past3 : from7 n ps ≡ check_verdict n t ps = sym (at_pass _ _ _ _ _ c.first_open-open.ensures c.if-open-count.false) ∙ past2 in
    c.judge_positions.ensures ∙ past3
