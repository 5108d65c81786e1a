-- `put_face` meets its contract. Assumes nothing.
use mathlib.Core.Path.{◌≡◌, ◌∙◌}
use mathlib.Core.List.{List}
use Prim.Native.Nat.{ℕ, ◌+◌}
use native.Mathlib.Omega.{arith}
use lib.ListN.{length, set, length-set}
use Rattle.numerals.proofs.Writing.{wrote_length}
use Rattle.off_lines.proofs.Writing.{face_length, face_written}
use Rattle.off_lines.proofs.put_face.Goals as goal

-- the first two bytes do not change how long the text is
length_head : (l : List ℕ) (i : ℕ) → length (set (set l i 51) (i + 1) 32) ≡ length l
length_head l i = simp length-set

pub bounds-text-at : goal.bounds-text-at
bounds-text-at c =
    let s = c.args in
    omega (arith, face_length s.a s.b s.c)

pub bounds-text-at-2 : goal.bounds-text-at-2
bounds-text-at-2 c =
    let s = c.args in
    simp length-set (omega (arith, face_length s.a s.b s.c))

pub overflow_add-at : goal.overflow_add-at
overflow_add-at c =
    let s = c.args in
    omega (arith, face_length s.a s.b s.c)

pub put_number-after_a-requires : goal.put_number-after_a-requires
put_number-after_a-requires c =
    let s = c.args in
    simp length-set (omega (arith, face_length s.a s.b s.c))

pub put_number-after_b-requires : goal.put_number-after_b-requires
put_number-after_b-requires c =
    let s = c.args in
    let e = wrote_length c.put_number-after_a.ensures ∙ length_head s.text.now s.at in
    omega (arith, face_length s.a s.b s.c)

pub put_number-requires : goal.put_number-requires
put_number-requires c =
    let s = c.args in
    let e = wrote_length c.put_number-after_b.ensures ∙ wrote_length c.put_number-after_a.ensures ∙ length_head s.text.now s.at in
    omega (arith, face_length s.a s.b s.c)

pub returns : goal.returns
returns c =
    let s = c.args in
    face_written s.a s.b s.c (omega (arith, face_length s.a s.b s.c))
    c.put_number-after_a.ensures c.put_number-after_b.ensures c.put_number.ensures
