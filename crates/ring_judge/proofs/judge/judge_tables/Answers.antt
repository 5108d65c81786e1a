-- `judge_tables` meets its contract. Assumes nothing.
use Prim.Native.Nat.{ℕ}
use mathlib.Core.Path.{◌≡◌, refl, sym, ◌∙◌}
use lib.Dec.{leb}
use borrow.Author.Tests.{le-leb, lt-leb}
use Rattle.rings.specs.Verdict.{refuse_if}
use Rattle.rings.specs.Check.{short_rings}
use Rattle.ring_judge.specs.Judging.{table_verdict}
use Rattle.rings.specs.declared.Refusal.TheVariants.{TableTooShort, NoSuchVertex}
use Rattle.rings.proofs.Verdicts.{if_hit, if_pass}
use Rattle.rings.proofs.Checks.{told_most}
use Rattle.rings.specs.Table.{Lent, lent}
use Rattle.rings.specs.Refusal.{Verdict}
use Rattle.std.specs.Prelude.{Ok}
use Rattle.ring_judge.proofs.judge.judge_tables.Goals as goal

-- what is left of the verdict before reasons 3 and 1
abbrev from3 : ℕ → ℕ → Verdict
from3 n v = refuse_if (leb n v) (NoSuchVertex 0) (Ok tt)

abbrev from1 : ℕ → Lent → ℕ → Verdict
from1 n t v = refuse_if (short_rings n t) TableTooShort (from3 n v)

pub returns-then-is_bad_count : goal.returns-then-is_bad_count
unfolding table_verdict
returns-then-is_bad_count c = if_hit _ _ _ _ c.is_bad_count.ensures c.if-is_bad_count.true

pub is_short_rings-requires : goal.is_short_rings-requires
is_short_rings-requires c = told_most _ _ c.is_bad_count.ensures c.if-is_bad_count.false

pub returns-then-is_short_rings : goal.returns-then-is_short_rings
unfolding table_verdict
returns-then-is_short_rings c =
    let past1 : let a = c.args in from1 a.count (lent a.valences.now a.rings.now) a.v ≡ table_verdict a.count (lent a.valences.now a.rings.now) a.v = sym (if_pass _ _ _ _ c.is_bad_count.ensures c.if-is_bad_count.false) in
    if_hit _ _ _ _ c.is_short_rings.ensures c.if-is_short_rings.true ∙ past1

pub returns-then-count-v : goal.returns-then-count-v
unfolding table_verdict
returns-then-count-v c =
    let past1 : let a = c.args in from1 a.count (lent a.valences.now a.rings.now) a.v ≡ table_verdict a.count (lent a.valences.now a.rings.now) a.v = sym (if_pass _ _ _ _ c.is_bad_count.ensures c.if-is_bad_count.false) in
    let past2 : let a = c.args in from3 a.count a.v ≡ table_verdict a.count (lent a.valences.now a.rings.now) a.v = sym (if_pass _ _ _ _ c.is_short_rings.ensures c.if-is_short_rings.false) ∙ past1 in
    let a = c.args in
    if_hit (leb a.count a.v) (NoSuchVertex 0) (Ok tt) _ refl (le-leb a.count a.v c.if-count-v.true) ∙ past2

pub returns : goal.returns
unfolding table_verdict
returns c =
    let past1 : let a = c.args in from1 a.count (lent a.valences.now a.rings.now) a.v ≡ table_verdict a.count (lent a.valences.now a.rings.now) a.v = sym (if_pass _ _ _ _ c.is_bad_count.ensures c.if-is_bad_count.false) in
    let past2 : let a = c.args in from3 a.count a.v ≡ table_verdict a.count (lent a.valences.now a.rings.now) a.v = sym (if_pass _ _ _ _ c.is_short_rings.ensures c.if-is_short_rings.false) ∙ past1 in
    let a = c.args in
    sym (if_pass (leb a.count a.v) (NoSuchVertex 0) (Ok tt) _ refl (lt-leb a.count a.v c.if-count-v.false)) ∙ past2
