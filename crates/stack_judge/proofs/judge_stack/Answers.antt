-- `judge_stack` meets its contract. Assumes nothing.
use mathlib.Core.Path.{◌≡◌, sym}
use Prim.Native.Nat.{◌≤◌}
use native.Mathlib.Omega.{arith}
use Rattle.mesh.specs.Mesh.{edges}
use Rattle.rings.specs.Table.{lent, rows}
use Rattle.rings.specs.Accepts.{Accepts}
use Rattle.rings.proofs.Accepted.{accepted_only}
use Rattle.stack_judge.proofs.Judged.{told_levels, counted_edges, stack_bad, stack_check, stack_large, stack_short, stack_accepted}
use Rattle.rings.proofs.Verdicts.{handed_on}
use Rattle.stack_judge.proofs.judge_stack.Goals as goal

pub returns-then-is_bad_levels : goal.returns-then-is_bad_levels
returns-then-is_bad_levels c = stack_bad _ _ _ _ _ c.is_bad_levels.ensures c.if-is_bad_levels.true

pub returns-in_err-judge : goal.returns-in_err-judge
returns-in_err-judge c = handed_on c.from_residual.ensures (stack_check _ _ _ _ _ c.is_bad_levels.ensures c.if-is_bad_levels.false _ c.in_err-judge.ensures)

pub edge_count-edges-requires : goal.edge_count-edges-requires
edge_count-edges-requires c =
    let sound : let a = c.args in Accepts a.count (lent a.valences.now a.rings.now) a.positions.now = accepted_only _ _ _ (sym c.in_ok-judge.ensures) in
    record { count_in_bounds = sound.room.valences; count_le_most_count = sound.high }

pub first_too_large-large-requires : goal.first_too_large-large-requires
first_too_large-large-requires c =
    let sound : let a = c.args in Accepts a.count (lent a.valences.now a.rings.now) a.positions.now = accepted_only _ _ _ (sym c.in_ok-judge.ensures) in
    let judged : let a = c.args in a.levels ≤ 4 = told_levels _ _ c.is_bad_levels.ensures c.if-is_bad_levels.false in
    let l = judged in
    record { count_le_most_count = sound.high; edges_le_edge_bound = c.edge_count-edges.ensures.upper_bound; levels_le_most_levels = omega arith }

pub returns-then-large-levels : goal.returns-then-large-levels
returns-then-large-levels c =
    let sound : let a = c.args in Accepts a.count (lent a.valences.now a.rings.now) a.positions.now = accepted_only _ _ _ (sym c.in_ok-judge.ensures) in
    let counted : let a = c.args in c.edge_count-edges.result ≡ edges (rows a.count (lent a.valences.now a.rings.now)) = counted_edges _ _ _ sound _ c.edge_count-edges.ensures.value in
    stack_large _ _ _ _ _ c.is_bad_levels.ensures c.if-is_bad_levels.false c.in_ok-judge.ensures _ counted _ c.first_too_large-large.ensures c.if-large-levels.true

pub stack_count-n-requires : goal.stack_count-n-requires
stack_count-n-requires c =
    let sound : let a = c.args in Accepts a.count (lent a.valences.now a.rings.now) a.positions.now = accepted_only _ _ _ (sym c.in_ok-judge.ensures) in
    let judged : let a = c.args in a.levels ≤ 4 = told_levels _ _ c.is_bad_levels.ensures c.if-is_bad_levels.false in
    let l = judged in
    record { count_le_most_count = sound.high; edges_le_edge_bound = c.edge_count-edges.ensures.upper_bound; levels_le_most_levels = omega arith }

pub is_short_stack-requires : goal.is_short_stack-requires
is_short_stack-requires c = c.stack_count-n.ensures.upper_bound

pub returns-then-is_short_stack : goal.returns-then-is_short_stack
returns-then-is_short_stack c =
    let sound : let a = c.args in Accepts a.count (lent a.valences.now a.rings.now) a.positions.now = accepted_only _ _ _ (sym c.in_ok-judge.ensures) in
    let counted : let a = c.args in c.edge_count-edges.result ≡ edges (rows a.count (lent a.valences.now a.rings.now)) = counted_edges _ _ _ sound _ c.edge_count-edges.ensures.value in
    stack_short _ _ _ _ _ c.is_bad_levels.ensures c.if-is_bad_levels.false c.in_ok-judge.ensures _ counted _ c.first_too_large-large.ensures c.if-large-levels.false
    _ c.stack_count-n.ensures.value _ c.is_short_stack.ensures c.if-is_short_stack.true

pub returns : goal.returns
returns c =
    let sound : let a = c.args in Accepts a.count (lent a.valences.now a.rings.now) a.positions.now = accepted_only _ _ _ (sym c.in_ok-judge.ensures) in
    let counted : let a = c.args in c.edge_count-edges.result ≡ edges (rows a.count (lent a.valences.now a.rings.now)) = counted_edges _ _ _ sound _ c.edge_count-edges.ensures.value in
    stack_accepted _ _ _ _ _ c.is_bad_levels.ensures c.if-is_bad_levels.false c.in_ok-judge.ensures _ counted _ c.first_too_large-large.ensures c.if-large-levels.false
    _ c.stack_count-n.ensures.value _ c.is_short_stack.ensures c.if-is_short_stack.false
