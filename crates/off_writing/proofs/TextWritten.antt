-- The text of a mesh, part by part, and what the call makes of it. Assumes nothing.
use mathlib.Core.Path.{◌≡◌, refl, sym, ap, ◌∙◌}
use mathlib.Core.List.{List, ◌++◌}
use Prim.Native.Nat.{ℕ, ◌+◌, ◌≤◌, ◌<◌}
use native.Mathlib.Omega.{arith}
use lib.IntN.{ℤ}
use lib.ListN.{length, length-append}
use borrow.Author.Tests.{le-ltb, lt-ltb}
use Rattle.mesh.specs.Mesh.{edges, faces}
use Rattle.rings.specs.Table.{Lent, gather, put, rows, coordinate_at}
use Rattle.rings.specs.Verdict.{refuse_if, and_then, after, with_counts, with_amount}
use Rattle.rings.specs.Check.{check_verdict, check_answer}
use Rattle.rings.specs.Accepts.{Accepts}
use Rattle.rings.specs.declared.Refusal.{Refusal}
use Rattle.rings.specs.declared.Refusal.TheVariants.{NoRoom}
use Rattle.rings.proofs.Accepted.{accepted_only}
use Rattle.rings.proofs.Verdicts.{same_counts}
use Rattle.file_format.specs.Blocks.{Put}
use Rattle.file_format.proofs.Blocks.{then, put_is}
use Rattle.off_rings.specs.Listed.{listed}
use Rattle.off_text.specs.WriteOff.{word, counts_line, face_lines, text_of, write_off_verdict, write_off_answer, write_off_room}
use Rattle.off_text.proofs.FacesReadBack.{few}
use Rattle.off_length.specs.Length.{text_length}
use Rattle.off_length.proofs.TextLength.{text_length_lem}
use Rattle.off_lines.specs.Written.{Written, line_of}
use Rattle.off_lines.proofs.Writing.{written_then}
use Rattle.rings.specs.Refusal.{Verdict, counted}
use Rattle.std.specs.Prelude.{Ok, Err}

module _ (n : ℕ) (t : Lent) (ps : List ℤ) where
  -- the lines of the vertices, and those of the faces
  abbrev pub vertex_lines : List ℕ
  vertex_lines = gather (line_of ps) n

  abbrev pub corner_lines : List ℕ
  corner_lines = face_lines (listed (rows n t))

  module _ (e f : ℕ) (is-e : e ≡ edges (rows n t)) (is_f : f ≡ faces (rows n t)) where
    parts : word ++ (counts_line n f e ++ (vertex_lines ++ corner_lines)) ≡ text_of (rows n t) (coordinate_at ps)
    unfolding text_of rows
    parts = rw (is-e, is_f)

    -- the parts fit where the whole does
    pub parts_fit : {room : ℕ} → length (text_of (rows n t) (coordinate_at ps)) ≤ room
        → 4 + (length (counts_line n f e) + (length vertex_lines + length corner_lines)) ≤ room
    parts_fit h =
        let l = length-append (counts_line n f e) (vertex_lines ++ corner_lines) in
        let m = length-append vertex_lines corner_lines in
        omega (arith, ap length parts)

    pub all_written : {l m₁ m₂ m₃ m₄ : List ℕ} {k₂ k₃ k₄ : ℕ} → Put l 0 word m₁
        → Written m₁ 4 (counts_line n f e) m₂ k₂
        → Written m₂ k₂ vertex_lines m₃ k₃
        → Written m₃ k₃ corner_lines m₄ k₄
        → Put l 0 (text_of (rows n t) (coordinate_at ps)) m₄
    all_written w c v g = put_is parts (then w (written_then c (written_then v g)).put refl)

-- ---- the call

-- the check accepted the tables, with these edges and faces
pub record Checked (n : ℕ) (t : Lent) (ps : List ℤ) (e f : ℕ) : Type 0 where
  pub passes : check_verdict n t ps ≡ (Ok tt)
  pub accepts : Accepts n t ps
  pub e_is : e ≡ edges (rows n t)
  pub f_is : f ≡ faces (rows n t)
  pub few_faces : f ≤ 4294967296

module _ (n : ℕ) (t : Lent) (ps : List ℤ) where
  -- what the check's answer tells
  pub counts_tell : (v e f : ℕ) → check_answer n t ps ≡ counted v e f → Checked n t ps e f
  unfolding check_answer with_counts
  counts_tell v e f h = go (check_verdict n t ps) refl h
    where
      go : (w : Verdict) → check_verdict n t ps ≡ w → with_counts w n (edges (rows n t)) (faces (rows n t)) ≡ counted v e f
          → Checked n t ps e f
      go (Ok u) c g =
          let A = accepted_only n t ps c in
          let d = same_counts g in
          let k : faces (rows n t) ≡ f = d.2 in
          record { passes = c; accepts = A; e_is = sym d.1; f_is = sym k; few_faces = omega (arith, few n t ps A, A.high, k) }
      go (Err r) c g = absurd (let z : ◌≡◌ {A = ℕ} 0 1 = cc in omega arith)

  pub refusal_tells : (r : Refusal) → check_answer n t ps ≡ Err r → check_verdict n t ps ≡ Err r
  unfolding check_answer with_counts
  refusal_tells r h = go (check_verdict n t ps) refl h
    where
      go : (w : Verdict) → check_verdict n t ps ≡ w → with_counts w n (edges (rows n t)) (faces (rows n t)) ≡ Err r
          → check_verdict n t ps ≡ Err r
      go (Ok u) c g = absurd (let z : ◌≡◌ {A = ℕ} 0 1 = cc in omega arith)
      go (Err q) c g = let k : q ≡ r = cc in c ∙ ap Err k

  pub size_is : {e f size : ℕ} → Checked n t ps e f → size ≡ text_length n t.valences ps e f → size ≡ length (text_of (rows n t) (coordinate_at ps))
  size_is {e} {f} {size} k h =
      h ∙ ap (λ x. text_length n t.valences ps x f) k.e_is ∙ ap (text_length n t.valences ps (edges (rows n t))) k.f_is ∙ sym (text_length_lem n t ps k.accepts)

module _ (n : ℕ) (t : Lent) (ps : List ℤ) (room : List ℕ) where
  -- the check refuses
  pub check_refuses : (r : Refusal) → check_verdict n t ps ≡ Err r
      → (Err r ≡ write_off_answer n t ps room) × (room ≡ write_off_room n t ps room)
  unfolding write_off_answer write_off_room write_off_verdict and_then after with_amount
  check_refuses r c = (rw c, rw c)

  module _ (c : check_verdict n t ps ≡ (Ok tt)) where
    no_room : length room < length (text_of (rows n t) (coordinate_at ps)) → write_off_verdict n t ps room ≡ Err NoRoom
    unfolding write_off_verdict and_then refuse_if
    no_room h = rw (c, lt-ltb (length room) (length (text_of (rows n t) (coordinate_at ps))) h)

    enough : length (text_of (rows n t) (coordinate_at ps)) ≤ length room → write_off_verdict n t ps room ≡ (Ok tt)
    unfolding write_off_verdict and_then refuse_if
    enough h = rw (c, le-ltb (length room) (length (text_of (rows n t) (coordinate_at ps))) h)

    pub room_refuses : length room < length (text_of (rows n t) (coordinate_at ps))
        → (Err NoRoom ≡ write_off_answer n t ps room) × (room ≡ write_off_room n t ps room)
    unfolding write_off_answer write_off_room after with_amount
    room_refuses h = (rw (no_room h), rw (no_room h))

    pub accepted : {size : ℕ} {room' : List ℕ} → size ≡ length (text_of (rows n t) (coordinate_at ps))
        → Put room 0 (text_of (rows n t) (coordinate_at ps)) room'
        → (Ok size ≡ write_off_answer n t ps room) × (room' ≡ write_off_room n t ps room)
    unfolding write_off_answer write_off_room after with_amount
    accepted e p = let f = p.fits in let v = enough (omega arith) in (rw v (ap Ok e), rw v p.is)
