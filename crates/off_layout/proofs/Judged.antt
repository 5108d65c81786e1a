-- What is known behind each stage of judging a text. Assumes nothing.
use mathlib.Core.Path.{◌≡◌, refl, sym, ap, ◌∙◌}
use mathlib.Core.Bool.{true}
use mathlib.Core.List.{List}
use Prim.Native.Nat.{ℕ, ◌+◌, ◌≤◌, ◌<◌}
use native.Mathlib.Omega.{arith}
use lib.Dec.{ltb}
use lib.ListN.{length}
use borrow.Author.Tests.{lt-ltb, le-ltb}
use Rattle.std.specs.Prelude.{Option, Ok, Err, ok_or}
use Rattle.std.proofs.lemmas.Option.{cond_some}
use Rattle.mesh.proofs.First.{first_le}
use Rattle.rings.specs.Verdict.{refuse_if, refuse_at}
use Rattle.rings.specs.declared.Refusal.{Refusal}
use Rattle.rings.specs.declared.Refusal.TheVariants.{BadText}
use Rattle.rings.proofs.Verdicts.{at_hit, at_pass}
use Rattle.off_numbers.proofs.Scanning.{number_within}
use Rattle.off_text.specs.Layout.{is_word, text_count, text_faces, is_counts, vertex_at, face_line_at, text_verdict}
use Rattle.off_layout.specs.declared.Head.{Head}
use Rattle.off_layout.specs.Judging.{head_of, with_text, judged_text}
use Rattle.off_layout.proofs.Reaching.{PastLines, bad_vertex, bad_line}
use Rattle.rings.specs.Refusal.{Verdict}

-- what the second line tells
pub record HeadFound (s : List ℕ) (h : Head) : Type 0 where
  pub is : is_counts s ≡ true
  pub count_is : h.count ≡ text_count s
  pub faces_is : h.faces ≡ text_faces s
  pub next_is : h.next ≡ vertex_at s 0
  pub count_small : h.count < 4294967296
  pub faces_small : h.faces < 4294967296
  pub within : h.next ≤ length s

pub counts_within : (s : List ℕ) → is_counts s ≡ true → (text_count s < 4294967296) × ((text_faces s < 4294967296) × (vertex_at s 0 ≤ length s))
unfolding is_counts text_count text_faces vertex_at
counts_within s e = grind (arith, number_within)

pub head_found : {s : List ℕ} {o : Option Head} {h : Head} (r : Refusal) → Ok h ≡ ok_or o r → o ≡ head_of s → HeadFound s h
unfolding head_of
head_found {s} {o} {h} r e is =
    let k = cond_some (is_counts s) (record { count = text_count s; faces = text_faces s; next = vertex_at s 0 }) h (sym is ∙ grind arith) in
    let w = counts_within s k.0 in
    rw (← k.1)
    (record { is = k.0; count_is = refl; faces_is = refl; next_is = refl; count_small = w.0; faces_small = w.1.0; within = w.1.1 })

module _ {s : List ℕ} {h : Head} (k : HeadFound s h) (w : is_word s ≡ true) where
  -- what is left of the verdict behind the vertices and behind the faces, whose lines end at a place
  abbrev ends : ℕ → Verdict
  ends at = refuse_if (ltb at (length s)) (BadText (3 + h.count + h.faces)) (Ok tt)

  abbrev faces : Verdict
  faces = refuse_at (bad_line s) h.faces (λ i. BadText (3 + h.count + i)) (ends (face_line_at s h.faces))

  vertices : text_verdict s ≡ refuse_at (bad_vertex s) h.count (λ v. BadText (3 + v)) faces
  unfolding text_verdict refuse_if
  vertices = rw (k.count_is, k.faces_is, w, k.is)

  module _ {v corners : ℕ} (p : PastLines s (vertex_at s) (bad_vertex s) h.count v corners) where
    pub judged_vertex : v < h.count → Err (BadText (3 + v)) ≡ judged_text s
    unfolding judged_text with_text
    judged_vertex l = ap (with_text s) (at_hit _ _ _ _ v p.first_is l ∙ sym vertices)

    module _ (l : h.count ≤ v) where
      past_vertices : text_verdict s ≡ faces
      past_vertices = vertices ∙ at_pass _ _ _ _ v p.first_is l

      -- the faces begin where the vertices end
      pub faces_begin : corners ≡ face_line_at s 0
      unfolding face_line_at
      faces_begin =
          let e : v ≡ h.count = omega (arith, p.first_is, first_le (bad_vertex s) h.count) in
          p.begins ∙ ap (vertex_at s) (e ∙ k.count_is)

      module _ {i last : ℕ} (q : PastLines s (face_line_at s) (bad_line s) h.faces i last) where
        pub judged_face : i < h.faces → Err (BadText (3 + h.count + i)) ≡ judged_text s
        unfolding judged_text with_text
        judged_face l = ap (with_text s) (at_hit _ _ _ _ i q.first_is l ∙ sym past_vertices)

        module _ (m : h.faces ≤ i) where
          past_faces : text_verdict s ≡ ends last
          past_faces =
              let e : i ≡ h.faces = omega (arith, q.first_is, first_le (bad_line s) h.faces) in
              past_vertices ∙ at_pass _ _ _ _ i q.first_is m ∙ ap ends (sym (q.begins ∙ ap (face_line_at s) e))

          pub judged_end : last < length s → Err (BadText (3 + h.count + h.faces)) ≡ judged_text s
          unfolding judged_text with_text refuse_if
          judged_end l = rw (past_faces, lt-ltb last (length s) l)

          pub judged_whole : length s ≤ last → Ok (record { count = h.count; faces = h.faces; points = h.next; corners = corners }) ≡ judged_text s
          unfolding judged_text with_text refuse_if
          judged_whole l = rw (past_faces, le-ltb last (length s) l, k.count_is, k.faces_is, k.next_is, faces_begin)
