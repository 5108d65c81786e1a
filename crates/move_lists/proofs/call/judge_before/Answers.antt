-- `judge_before` meets its contract. Assumes nothing.
use mathlib.Core.Path.{◌≡◌, sym}
use Rattle.stack_judge.specs.Accepts.{AcceptsStack}
use Rattle.stack_judge.proofs.AcceptedStack.{stack_only}
use Rattle.stack_strange.specs.Expected.{whole}
use Rattle.move_lists.proofs.Judging.{edges_asked, edges_are, whole_is, whole_small, before_stack, before_words, before_strange, before_many, before_accepted}
use native.Mathlib.Omega.{arith}
use Rattle.rings.specs.Table.{lent}
use Rattle.rings.proofs.Verdicts.{handed_on}
use Rattle.move_lists.proofs.call.judge_before.Goals as goal

pub returns-in_err-judge_stack : goal.returns-in_err-judge_stack
returns-in_err-judge_stack c = handed_on c.from_residual.ensures (before_stack _ _ _ _ _ _ _ c.in_err-judge_stack.ensures)

pub edge_count-edges-requires : goal.edge_count-edges-requires
edge_count-edges-requires c =
    let t =
    let stack : let a = c.args in AcceptsStack a.count a.levels (lent a.valences.now a.rings.now) a.positions.now = stack_only _ _ _ _ (sym c.in_ok-judge_stack.ensures) in
    edges_asked stack in
    record { count_in_bounds = t.0; count_le_most_count = t.1 }

pub stack_count-whole-requires : goal.stack_count-whole-requires
stack_count-whole-requires c =
    let stack : let a = c.args in AcceptsStack a.count a.levels (lent a.valences.now a.rings.now) a.positions.now = stack_only _ _ _ _ (sym c.in_ok-judge_stack.ensures) in
    record { count_le_most_count = (edges_asked stack).1; edges_le_edge_bound = c.edge_count-edges.ensures.upper_bound; levels_le_most_levels = stack.high }

pub words_for-requires : goal.words_for-requires
words_for-requires c =
    let stack : let a = c.args in AcceptsStack a.count a.levels (lent a.valences.now a.rings.now) a.positions.now = stack_only _ _ _ _ (sym c.in_ok-judge_stack.ensures) in
    let counted : let a = c.args in c.stack_count-whole.result ≡ whole a.count a.levels (lent a.valences.now a.rings.now) a.positions.now = whole_is stack _ _ c.edge_count-edges.ensures.value c.stack_count-whole.ensures.value in
    let w = counted in let s = whole_small stack in omega arith

pub returns-then-words-words_for : goal.returns-then-words-words_for
returns-then-words-words_for c =
    let stack : let a = c.args in AcceptsStack a.count a.levels (lent a.valences.now a.rings.now) a.positions.now = stack_only _ _ _ _ (sym c.in_ok-judge_stack.ensures) in
    let counted : let a = c.args in c.stack_count-whole.result ≡ whole a.count a.levels (lent a.valences.now a.rings.now) a.positions.now = whole_is stack _ _ c.edge_count-edges.ensures.value c.stack_count-whole.ensures.value in
    before_words _ _ _ _ _ _ c.in_ok-judge_stack.ensures _ counted (omega (arith, c.if-words-words_for.true, c.words_for.ensures))

pub first_strange-strange-requires : goal.first_strange-strange-requires
first_strange-strange-requires c =
    let stack : let a = c.args in AcceptsStack a.count a.levels (lent a.valences.now a.rings.now) a.positions.now = stack_only _ _ _ _ (sym c.in_ok-judge_stack.ensures) in
    record { positions_value = sym c.in_ok-judge_stack.ensures; edge_count_value = edges_are stack _ c.edge_count-edges.ensures.value }

pub returns-then-strange-whole : goal.returns-then-strange-whole
returns-then-strange-whole c =
    let stack : let a = c.args in AcceptsStack a.count a.levels (lent a.valences.now a.rings.now) a.positions.now = stack_only _ _ _ _ (sym c.in_ok-judge_stack.ensures) in
    let counted : let a = c.args in c.stack_count-whole.result ≡ whole a.count a.levels (lent a.valences.now a.rings.now) a.positions.now = whole_is stack _ _ c.edge_count-edges.ensures.value c.stack_count-whole.ensures.value in
    before_strange _ _ _ _ _ _ c.in_ok-judge_stack.ensures _ counted (omega (arith, c.if-words-words_for.false, c.words_for.ensures))
    _ c.first_strange-strange.ensures c.if-strange-whole.true

pub returns-then-moves-gt-MOST_MOVES : goal.returns-then-moves-gt-MOST_MOVES
returns-then-moves-gt-MOST_MOVES c =
    let stack : let a = c.args in AcceptsStack a.count a.levels (lent a.valences.now a.rings.now) a.positions.now = stack_only _ _ _ _ (sym c.in_ok-judge_stack.ensures) in
    let counted : let a = c.args in c.stack_count-whole.result ≡ whole a.count a.levels (lent a.valences.now a.rings.now) a.positions.now = whole_is stack _ _ c.edge_count-edges.ensures.value c.stack_count-whole.ensures.value in
    before_many _ _ _ _ _ _ c.in_ok-judge_stack.ensures _ counted
    (omega (arith, c.if-words-words_for.false, c.words_for.ensures)) _ c.first_strange-strange.ensures
    c.if-strange-whole.false c.if-moves-gt-MOST_MOVES.true

pub returns : goal.returns
returns c =
    let stack : let a = c.args in AcceptsStack a.count a.levels (lent a.valences.now a.rings.now) a.positions.now = stack_only _ _ _ _ (sym c.in_ok-judge_stack.ensures) in
    let counted : let a = c.args in c.stack_count-whole.result ≡ whole a.count a.levels (lent a.valences.now a.rings.now) a.positions.now = whole_is stack _ _ c.edge_count-edges.ensures.value c.stack_count-whole.ensures.value in
    before_accepted _ _ _ _ _ _ c.in_ok-judge_stack.ensures _ counted
    (omega (arith, c.if-words-words_for.false, c.words_for.ensures)) _ c.first_strange-strange.ensures
    c.if-strange-whole.false c.if-moves-gt-MOST_MOVES.false
