-- `judge_text` meets its contract. Assumes nothing.
use mathlib.Core.Path.{sym, ◌∙◌}
use native.Mathlib.Omega.{arith}
use borrow.Author.Rules.{rules}
use Rattle.rings.specs.Verdict.{refuse_if}
use Rattle.off_text.specs.Layout.{vertex_at, face_line_at, text_verdict}
use Rattle.off_layout.specs.Judging.{head_of, with_text, judged_text}
use Rattle.off_layout.proofs.Lines.{word_within}
use Rattle.off_layout.proofs.Judged.{head_found, judged_vertex, faces_begin, judged_face, judged_end, judged_whole}
use Rattle.off_layout.proofs.Reaching.{PastLines, bad_vertex, bad_line, vertices_passed, faces_passed, vertex_step, face_step}
use Rattle.off_layout.proofs.judge_text.Goals.{After-past_lines-vertices, After-past_lines-lines}
use Rattle.off_layout.proofs.judge_text.Goals as goal

-- what is known behind the lines of the vertices, and behind those of the faces
vertices : (c : After-past_lines-vertices)
    → PastLines c.args.text.now (vertex_at c.args.text.now) (bad_vertex c.args.text.now) c.in_ok-count.field-0.count
    c.past_lines-vertices.result.line c.past_lines-vertices.result.at
vertices c =
    let h = head_found _ c.in_ok-count.ensures.value c.head_of.ensures in
    vertices_passed _ h.within c.past_lines-vertices.ensures (λ at r q. search rules) h.next_is

faces : (c : After-past_lines-lines)
    → PastLines c.args.text.now (vertex_at c.args.text.now) (bad_vertex c.args.text.now) c.in_ok-count.field-0.count
    c.past_lines-vertices.result.line c.past_lines-vertices.result.at
    → PastLines c.args.text.now (face_line_at c.args.text.now) (bad_line c.args.text.now) c.in_ok-count.field-0.faces
    c.past_lines-lines.result.line c.past_lines-lines.result.at
faces c v =
    let h = head_found _ c.in_ok-count.ensures.value c.head_of.ensures in
    faces_passed _ v.within c.past_lines-lines.ensures (λ at r q. search rules) (faces_begin h (sym c.is_word.ensures ∙ c.if-not-is_word.false) v c.if-vertices-count.false)

pub returns-then-not-is_word : goal.returns-then-not-is_word
unfolding judged_text with_text text_verdict refuse_if
returns-then-not-is_word c = grind arith

pub head_of-requires : goal.head_of-requires
head_of-requires c = word_within _ (sym c.is_word.ensures ∙ c.if-not-is_word.false)

pub returns-in_err-count : goal.returns-in_err-count
unfolding head_of judged_text with_text text_verdict refuse_if
returns-in_err-count c = grind arith

pub past_lines-vertices-requires-clause-first : goal.past_lines-vertices-requires-clause-first
past_lines-vertices-requires-clause-first c =
    let h = head_found _ c.in_ok-count.ensures.value c.head_of.ensures in
    let w = h.within in search rules

pub past_lines-vertices-requires-clause-more : goal.past_lines-vertices-requires-clause-more
past_lines-vertices-requires-clause-more c = search (rules, vertex_step)

pub overflow_add-result : goal.overflow_add-result
overflow_add-result c =
    let h = head_found _ c.in_ok-count.ensures.value c.head_of.ensures in
    omega (arith, c.if-vertices-count.true)

pub returns-then-vertices-count : goal.returns-then-vertices-count
returns-then-vertices-count c =
    let h = head_found _ c.in_ok-count.ensures.value c.head_of.ensures in
    judged_vertex h (sym c.is_word.ensures ∙ c.if-not-is_word.false) (vertices (goal.at.returns-then-vertices-count c).After-past_lines-vertices)
    c.if-vertices-count.true

pub past_lines-lines-requires-clause-first : goal.past_lines-lines-requires-clause-first
past_lines-lines-requires-clause-first c =
    let h = head_found _ c.in_ok-count.ensures.value c.head_of.ensures in
    let k = h.count_is in
    let w = (vertices (goal.at.past_lines-lines-requires-clause-first c).After-past_lines-vertices).within in search rules

pub past_lines-lines-requires-clause-more : goal.past_lines-lines-requires-clause-more
past_lines-lines-requires-clause-more c =
    let h = head_found _ c.in_ok-count.ensures.value c.head_of.ensures in
    let k = h.count_is in search (rules, face_step)

pub overflow_add-result-then-lines-faces : goal.overflow_add-result-then-lines-faces
overflow_add-result-then-lines-faces c =
    let h = head_found _ c.in_ok-count.ensures.value c.head_of.ensures in omega arith

pub overflow_add-result-then-lines-faces-2 : goal.overflow_add-result-then-lines-faces-2
overflow_add-result-then-lines-faces-2 c =
    let h = head_found _ c.in_ok-count.ensures.value c.head_of.ensures in omega (arith, c.if-lines-faces.true)

pub returns-then-lines-faces : goal.returns-then-lines-faces
returns-then-lines-faces c =
    let h = head_found _ c.in_ok-count.ensures.value c.head_of.ensures in
    let at = goal.at.returns-then-lines-faces c in
    let v = vertices at.After-past_lines-vertices in
    judged_face h (sym c.is_word.ensures ∙ c.if-not-is_word.false) v c.if-vertices-count.false (faces at.After-past_lines-lines v) c.if-lines-faces.true

pub overflow_add-result-then-lines-text : goal.overflow_add-result-then-lines-text
overflow_add-result-then-lines-text c =
    let h = head_found _ c.in_ok-count.ensures.value c.head_of.ensures in omega arith

pub overflow_add-result-then-lines-text-2 : goal.overflow_add-result-then-lines-text-2
overflow_add-result-then-lines-text-2 c =
    let h = head_found _ c.in_ok-count.ensures.value c.head_of.ensures in omega arith

pub returns-then-lines-text : goal.returns-then-lines-text
returns-then-lines-text c =
    let h = head_found _ c.in_ok-count.ensures.value c.head_of.ensures in
    let at = goal.at.returns-then-lines-text c in
    let v = vertices at.After-past_lines-vertices in
    judged_end h (sym c.is_word.ensures ∙ c.if-not-is_word.false) v c.if-vertices-count.false (faces at.After-past_lines-lines v) c.if-lines-faces.false
    c.if-lines-text.true

pub returns : goal.returns
returns c =
    let h = head_found _ c.in_ok-count.ensures.value c.head_of.ensures in
    let at = goal.at.returns c in
    let v = vertices at.After-past_lines-vertices in
    judged_whole h (sym c.is_word.ensures ∙ c.if-not-is_word.false) v c.if-vertices-count.false (faces at.After-past_lines-lines v) c.if-lines-faces.false
    c.if-lines-text.false
