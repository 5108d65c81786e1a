-- For inside.
-- What the judges of a text's lines find and hand on.
-- Assumes nothing.
use Rattle.std.specs.Prelude.{Bool, cond, ◌&&◌, List, ℕ, zero, suc, ◌+◌, ◌≤◌, ◌<◌, eqb, Option, Some, None, Result, Ok, Err}
use Rattle.rings.specs.declared.Refusal.{Refusal}
use Rattle.numerals.specs.Numerals.{blank}
use Rattle.off_numbers.specs.Text.{byte_at}
use Rattle.off_text.specs.Layout.{text_count, text_faces, is_counts, is_vertex, after_vertex, vertex_at, is_face, after_face, face_line_at, text_verdict}
use Rattle.off_layout.specs.declared.Head.{Head}
use Rattle.off_layout.specs.declared.Text.{Text}
use Rattle.rings.specs.Refusal.{Verdict}

-- from a place on, so many steps lead to a place
pub data Walked (past : ℕ → Option ℕ → Type 0) (from : ℕ) : ℕ → ℕ → Type 0 where
  none : Walked past from zero from
  more : {line at next : ℕ} → Walked past from line at → past at (Some next) → Walked past from (suc line) next

-- so many lines are passed, and then either all of them or the next one is not
pub record Passed (past : ℕ → Option ℕ → Type 0) (from lines line at : ℕ) : Type 0 where
  pub walked : Walked past from line at
  pub most : line ≤ lines
  pub stops : line < lines → past at None

module _ (s : List ℕ) where
  -- line 2, where it is as it should be: V, F, and where the next line begins
  unfoldable pub head_of : Option Head
  head_of = cond (is_counts s) (Some (record { count = text_count s; faces = text_faces s; next = vertex_at s 0 })) None

  -- the place behind the line of a vertex, or none begins there
  unfoldable pub past_vertex : ℕ → Option ℕ
  past_vertex at = cond (is_vertex s at) (Some (after_vertex s at)) None

  -- the place behind the line of a face, or none begins there
  unfoldable pub past_face : ℕ → Option ℕ
  past_face at = cond (is_face s at) (Some (after_face s at)) None

  -- a three and a blank
  abbrev pub is_three : ℕ → Bool
  is_three at = eqb (byte_at s at) 51 && eqb (byte_at s (at + 1)) blank

  -- what is handed on of a text that is as it should be: V, F, and where the vertices and the faces begin
  unfoldable pub with_text : Verdict → Result Text Refusal
  with_text (Ok u) = Ok (record { count = text_count s; faces = text_faces s; points = vertex_at s 0; corners = face_line_at s 0 })
  with_text (Err r) = Err r

  unfoldable pub judged_text : Result Text Refusal
  judged_text = with_text (text_verdict s)
