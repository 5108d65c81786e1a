-- `judge` meets its contract. Assumes nothing.
use mathlib.Core.Path.{◌≡◌, sym, ◌∙◌}
use mathlib.Core.Bool.{false}
use Rattle.rings.specs.Table.{lent}
use Rattle.rings.specs.Check.{bad_count, short_tables, check_verdict}
use Rattle.rings.proofs.Verdicts.{if_hit, if_clear}
use Rattle.rings.proofs.Checks.{told_most, long_tables}
use Rattle.rings.proofs.Accepted.{sound_rest}
use Rattle.check_mesh.proofs.judge.Goals as goal

pub returns-then-is_bad_count : goal.returns-then-is_bad_count
unfolding check_verdict
returns-then-is_bad_count c = if_hit _ _ _ _ c.is_bad_count.ensures c.if-is_bad_count.true

pub is_short-requires : goal.is_short-requires
is_short-requires c = told_most _ _ c.is_bad_count.ensures c.if-is_bad_count.false

pub returns-then-is_short : goal.returns-then-is_short
unfolding check_verdict
returns-then-is_short c =
    let counted : bad_count c.args.count ≡ false = sym c.is_bad_count.ensures ∙ c.if-is_bad_count.false in
    if_hit _ _ _ _ c.is_short.ensures c.if-is_short.true ∙ sym (if_clear _ _ _ counted)

pub is_sound-requires : goal.is_sound-requires
is_sound-requires c =
    let long : let a = c.args in short_tables a.count (lent a.valences.now a.rings.now) a.positions.now ≡ false = sym c.is_short.ensures ∙ c.if-is_short.false in
    (long_tables _ _ _ long).0

pub judge_positions-requires : goal.judge_positions-requires
judge_positions-requires c =
    let long : let a = c.args in short_tables a.count (lent a.valences.now a.rings.now) a.positions.now ≡ false = sym c.is_short.ensures ∙ c.if-is_short.false in
    (long_tables _ _ _ long).1

pub returns-then-is_sound : goal.returns-then-is_sound
returns-then-is_sound c =
    let counted : bad_count c.args.count ≡ false = sym c.is_bad_count.ensures ∙ c.if-is_bad_count.false in
    let long : let a = c.args in short_tables a.count (lent a.valences.now a.rings.now) a.positions.now ≡ false = sym c.is_short.ensures ∙ c.if-is_short.false in
    let k = c.is_sound.ensures c.if-is_sound.true in
    c.judge_positions.ensures ∙ sym (sound_rest _ _ _ counted long k.0 k.1)

pub judge_each-requires : goal.judge_each-requires
judge_each-requires c =
    let counted : bad_count c.args.count ≡ false = sym c.is_bad_count.ensures ∙ c.if-is_bad_count.false in
    let long : let a = c.args in short_tables a.count (lent a.valences.now a.rings.now) a.positions.now ≡ false = sym c.is_short.ensures ∙ c.if-is_short.false in
    record { count_value = counted; positions_value = long }

pub returns : goal.returns
returns c = c.judge_each.ensures
