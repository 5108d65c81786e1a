-- Lines passed one after the other, up to the first that is not as it should be. Assumes nothing.
use mathlib.Core.Path.{◌≡◌, refl, sym, ap, ◌∙◌}
use mathlib.Core.Bool.{Bool, true, false, cond, not}
use mathlib.Core.List.{List}
use mathlib.Core.Logic.{⊎_elim}
use Prim.Native.Nat.{ℕ, suc, ◌≤◌}
use native.Mathlib.Numerals.{add-one}
use lib.ListN.{length}
use Rattle.std.specs.Prelude.{Option, Some, None}
use Rattle.std.proofs.lemmas.Option.{cond_some}
use Rattle.mesh.specs.Search.{first}
use Rattle.mesh.proofs.Lists.{lt_split}
use Rattle.mesh.proofs.First.{Clear, clear_none, clear_more, first_is, first_end}
use Rattle.off_text.specs.Layout.{is_vertex, after_vertex, vertex_at, is_face, after_face, face_line_at}
use Rattle.off_layout.specs.Judging.{past_vertex, past_face, Walked, Passed}
use Rattle.off_layout.specs.Judging.Walked.{none, more}
use Rattle.off_layout.proofs.Lines.{vertex_within, face_within}

-- a choice that gave nothing was not made
cond_none : {A : Type 0} (b : Bool) (x : A) → cond b (Some x) None ≡ None → b ≡ false
cond_none true x e = cc
cond_none false x e = refl

-- so many lines are as they should be, and the next one begins at a place
record Reaches (s : List ℕ) (line_at : ℕ → ℕ) (bad : ℕ → Bool) (line at : ℕ) : Type 0 where
  clear : Clear bad line
  begins : at ≡ line_at line
  within : at ≤ length s

-- the first of so many lines that is not as it should be, or their number, and where it begins
pub record PastLines (s : List ℕ) (line_at : ℕ → ℕ) (bad : ℕ → Bool) (lines line at : ℕ) : Type 0 where
  pub first_is : line ≡ first bad lines
  pub begins : at ≡ line_at line
  pub within : at ≤ length s

-- lines of one kind: which places a good one begins at, where it ends, and where the lines of a text begin; a step passes the good ones alone
module _ (s : List ℕ) (good : ℕ → Bool) (after line_at : ℕ → ℕ) (next_line : (i : ℕ) → line_at (suc i) ≡ after (line_at i))
    (within : (at : ℕ) → good at ≡ true → after at ≤ length s) {past : ℕ → Option ℕ → Type 0}
    (is : (at : ℕ) (r : Option ℕ) → past at r → r ≡ cond (good at) (Some (after at)) None) {from : ℕ} (e : from ≡ line_at 0) (h : from ≤ length s) where
  abbrev bad : ℕ → Bool
  bad i = not (good (line_at i))

  reaches : {line at : ℕ} → Walked past from line at → Reaches s line_at bad line at
  reaches none = record { clear = clear_none; begins = e; within = h }
  reaches (more {line} {at} {next} w p) =
      let k = reaches w in
      let q = cond_some (good at) (after at) next (sym (is at (Some next) p)) in
      record {
        clear = rw (← add-one line) (clear_more k.clear (ap not (ap good (sym k.begins) ∙ q.0)));
        begins = sym q.1 ∙ ap after k.begins ∙ sym (next_line line);
        within = rw (← q.1) (within at q.0);
      }

  lines_passed : {lines line at : ℕ} → Passed past from lines line at → PastLines s line_at bad lines line at
  lines_passed {lines} {line} {at} p =
      let k = reaches p.walked in
      record {
        first_is =
            ⊎_elim
            (λ l. first_is k.clear l.1 (ap not (ap good (sym k.begins) ∙ cond_none (good at) (after at) (sym (is at None (p.stops l.1))))))
            (λ l. first_end k.clear p.most l.1)
            (lt_split line lines);
        begins = k.begins;
        within = k.within;
      }

module _ (s : List ℕ) where
  -- line v of the vertices, and line i of the faces, is not as it should be
  abbrev pub bad_vertex : ℕ → Bool
  bad_vertex v = not (is_vertex s (vertex_at s v))

  abbrev pub bad_line : ℕ → Bool
  bad_line i = not (is_face s (face_line_at s i))

  -- a step leads to a place in the text
  pub vertex_step : (at next : ℕ) → Some next ≡ past_vertex s at → next ≤ length s
  unfolding past_vertex
  vertex_step at next e = let k = cond_some (is_vertex s at) (after_vertex s at) next (sym e) in rw (← k.1) (vertex_within s at k.0)

  pub face_step : (at next : ℕ) → Some next ≡ past_face s at → next ≤ length s
  unfolding past_face
  face_step at next e = let k = cond_some (is_face s at) (after_face s at) next (sym e) in rw (← k.1) (face_within s at k.0)

  module _ {past : ℕ → Option ℕ → Type 0} {from lines line at : ℕ} (h : from ≤ length s) (p : Passed past from lines line at) where
    pub vertices_passed : ((at : ℕ) (r : Option ℕ) → past at r → r ≡ past_vertex s at) → from ≡ vertex_at s 0
        → PastLines s (vertex_at s) bad_vertex lines line at
    unfolding past_vertex vertex_at
    vertices_passed is e = lines_passed s (is_vertex s) (after_vertex s) (vertex_at s) (λ i. refl) (vertex_within s) is e h p

    pub faces_passed : ((at : ℕ) (r : Option ℕ) → past at r → r ≡ past_face s at) → from ≡ face_line_at s 0
        → PastLines s (face_line_at s) bad_line lines line at
    unfolding past_face face_line_at
    faces_passed is e = lines_passed s (is_face s) (after_face s) (face_line_at s) (λ i. refl) (face_within s) is e h p
