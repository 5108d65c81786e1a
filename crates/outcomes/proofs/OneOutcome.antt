-- What a call promises settles everything: two outcomes that its promise allows for one input are equal, in the answer, and so in number, place and counts,
-- and in every table. For refinement crate `refine` has it (OneOutcome). No public call is an exception (docs/EXCEPTIONS.md).
-- Assumes nothing.
use mathlib.Core.Path.{◌≡◌, sym, ap, ◌∙◌}
use mathlib.Core.List.{List}
use Prim.Native.Nat.{ℕ}
use lib.IntN.{ℤ}
use Rattle.rings.specs.Table.{Lent}
use Rattle.rings.specs.Paper.{paper_amount, paper_counted, paper_verdict}
use Rattle.ring_row.specs.Edit.{Edit}
use Rattle.reshape_tables.specs.Calls.{Reshaping}
use Rattle.move_plan.specs.declared.Move.{Move}
use Rattle.rings.specs.Refusal.{Paper, Amount, Counted, Verdict}
use Rattle.c_answers.specs.Crossing.{counts_paper, value_paper}
use Rattle.c_answers.specs.declared.CountsAnswer.{CountsAnswer}
use Rattle.c_answers.specs.declared.ValueAnswer.{ValueAnswer}
use Rattle.c_answers.proofs.OneAnswer.{one_value, one_counts}
use Rattle.outcomes.specs.Outcomes.{Answers, Edited, Reshaped, Split, Applied, ReadIn, WrittenOut, Listed, Exported}

-- two things that are one promised thing are the same
pub one_answer : {A : Type 0} {promised a b : A} → Answers promised a → Answers promised b → a ≡ b
one_answer x y = x ∙ sym y

module _ {e : Edit} {t t' t'' : Lent} {v : ℕ} {a b : Verdict} where
  pub one_edit : Edited e t v a t' → Edited e t v b t'' → (a ≡ b) × (paper_verdict a ≡ paper_verdict b) × (t'.valences ≡ t''.valences) × (t'.rings ≡ t''.rings)
  one_edit x y = let q = one_answer x.answers y.answers in (q, ap paper_verdict q, one_answer x.valences y.valences, one_answer x.rings y.rings)

module _ {e : Reshaping} {t t' t'' : Lent} {a b : Counted} where
  pub one_reshaping : Reshaped e t a t' → Reshaped e t b t'' → (a ≡ b) × (paper_counted a ≡ paper_counted b) × (t'.valences ≡ t''.valences) × (t'.rings ≡ t''.rings)
  one_reshaping x y =
      let q = one_answer x.answers y.answers in
      (q, ap paper_counted q, one_answer x.valences y.valences, one_answer x.rings y.rings)

  pub one_split : {n : ℕ} {ps ps' ps'' : List ℤ} → Split e n t ps a t' ps' → Split e n t ps b t'' ps''
      → (a ≡ b) × (paper_counted a ≡ paper_counted b) × (t'.valences ≡ t''.valences) × (t'.rings ≡ t''.rings) × (ps' ≡ ps'')
  one_split x y =
      let r = one_reshaping x.reshaped y.reshaped in
      (r.0, r.1, r.2, r.3, one_answer x.positions y.positions)

module _ {n levels : ℕ} {t : Lent} {map map' map'' : List ℕ} {ps ps' ps'' : List ℤ} {ms : List Move} {a b : Amount} where
  pub one_list : Applied n levels t ps map ms a ps' map' → Applied n levels t ps map ms b ps'' map'' → (a ≡ b) × (paper_amount a ≡ paper_amount b) × (ps' ≡ ps'') × (map' ≡ map'')
  one_list x y = let q = one_answer x.answers y.answers in (q, ap paper_amount q, one_answer x.positions y.positions, one_answer x.marks y.marks)

-- a mesh file or a face list, read or written
module _ {promised a b : Amount} {t t' t'' : Lent} {ps ps' ps'' : List ℤ} where
  pub one_reading : ReadIn promised t ps a t' ps' → ReadIn promised t ps b t'' ps''
      → (a ≡ b) × (paper_amount a ≡ paper_amount b) × (t'.valences ≡ t''.valences) × (t'.rings ≡ t''.rings) × (ps' ≡ ps'')
  one_reading x y =
      let q = one_answer x.answers y.answers in
      (q, ap paper_amount q, one_answer x.valences y.valences, one_answer x.rings y.rings, one_answer x.positions y.positions)

module _ {promised a b : Amount} {room room' room'' : List ℕ} where
  pub one_writing : WrittenOut promised room a room' → WrittenOut promised room b room'' → (a ≡ b) × (paper_amount a ≡ paper_amount b) × (room' ≡ room'')
  one_writing x y = let q = one_answer x.answers y.answers in (q, ap paper_amount q, one_answer x.bytes y.bytes)

module _ {input text text' text'' : List ℕ} {a b : ℕ} where
  pub one_listing : Listed input text a text' → Listed input text b text'' → (a ≡ b) × (text' ≡ text'')
  one_listing x y = (one_answer x.answers y.answers, one_answer x.bytes y.bytes)

-- ---- the C interface: fourteen calls answer a value, gt_check, gt_refine and the edits of the mesh the counts; those that write no table have the empty one

module _ {T : Type 0} {promised : Paper} {tables tables' tables'' : T} where
  pub one_exported_value : {a b : ValueAnswer} → Exported value_paper promised tables a tables'
      → Exported value_paper promised tables b tables'' → (a ≡ b) × (tables' ≡ tables'')
  one_exported_value {a} {b} x y = (one_value a b x.answers y.answers, one_answer x.writes y.writes)

  pub one_exported_counts : {a b : CountsAnswer} → Exported counts_paper promised tables a tables'
      → Exported counts_paper promised tables b tables'' → (a ≡ b) × (tables' ≡ tables'')
  one_exported_counts {a} {b} x y = (one_counts a b x.answers y.answers, one_answer x.writes y.writes)
