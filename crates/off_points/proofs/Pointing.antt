-- The points of a text: where the units of a vertex stand, what is beyond the range, and the points written one after the other.
-- Assumes nothing.
use mathlib.Core.Path.{◌≡◌, refl, sym, ap, ◌∙◌}
use mathlib.Core.Bool.{Bool, true, false}
use mathlib.Core.List.{List}
use Prim.Native.Nat.{ℕ, ◌+◌, ◌*◌, ◌≤◌, ◌<◌}
use native.Mathlib.Numerals.{add-one}
use native.Mathlib.Omega.{arith}
use lib.IntN.{ℤ}
use lib.ListN.{length, set, length-set}
use Rattle.mesh.proofs.First.{Clear, clear_none, clear_more}
use Rattle.rings.specs.Table.{point_rows}
use Rattle.rings.proofs.Tables.{length_gather}
use Rattle.file_format.specs.Blocks.{Put}
use Rattle.file_format.proofs.Blocks.{put_none, put_one, put_length, then, rows_next, rows_all}
use Rattle.off_numbers.specs.Text.{is_unit, unit_at, after_unit}
use Rattle.off_numbers.specs.Scanned.{UnitThere}
use Rattle.off_numbers.proofs.Scanning.{and_true}
use Rattle.off_text.specs.Layout.{is_vertex, after_vertex, vertex_at, axis_at, text_point}
use Rattle.off_text.specs.ReadOff.{text_beyond}
use Rattle.off_points.specs.Points.{VertexLines, VertexLine, PointRead, point_row}

-- ---- one vertex

-- the three coordinates of a vertex stand one behind the other
record Standing (s : List ℕ) (at : ℕ) : Type 0 where
  first : UnitThere s at
  second : UnitThere s (after_unit s at)
  third : UnitThere s (after_unit s (after_unit s at))

standing : (s : List ℕ) (at : ℕ) → is_vertex s at ≡ true → Standing s at
unfolding is_vertex
standing s at e =
    let i = and_true (is_unit s at 32) _ e in
    let j = and_true (is_unit s (after_unit s at) 32) _ i.1 in
    record {
      first = record { last = 32; positive = omega arith; low = omega arith; good = i.0 };
      second = record { last = 32; positive = omega arith; low = omega arith; good = j.0 };
      third = record { last = 10; positive = omega arith; low = omega arith; good = j.1 };
    }

module _ {s : List ℕ} {v at : ℕ} (l : VertexLine s v at) where
  pub first_there : UnitThere s at
  first_there = (standing s at l.good).first

  module _ {p : ℕ} (p_is : p ≡ after_unit s at) where
    pub second_there : UnitThere s p
    second_there = rw p_is (standing s at l.good).second

    module _ {q : ℕ} (q_is : q ≡ after_unit s p) where
      pub third_there : UnitThere s q
      third_there = rw (q_is, p_is) (standing s at l.good).third

      -- from three units read one after the other to the point
      pub point_read : {x y z : ℤ} {next : ℕ} → x ≡ unit_at s at → y ≡ unit_at s p → z ≡ unit_at s q → next ≡ after_unit s q → PointRead s v x y z next
      unfolding text_point axis_at vertex_at after_vertex
      point_read x_is y_is z_is next_is =
          let p' : p ≡ after_unit s (vertex_at s v) = p_is ∙ ap (after_unit s) l.begins in
          let q' : q ≡ after_unit s (after_unit s (vertex_at s v)) = q_is ∙ ap (after_unit s) p' in
          record {
            x_is = x_is ∙ ap (unit_at s) l.begins;
            y_is = y_is ∙ ap (unit_at s) p';
            z_is = z_is ∙ ap (unit_at s) q';
            next_is = rw (add-one v) (next_is ∙ ap (after_unit s) q');
          }

-- ---- vertex by vertex

pub line_of : {s : List ℕ} {count from v at : ℕ} → VertexLines s count from → v < count → at ≡ vertex_at s v → VertexLine s v at
line_of {s} {count} {from} {v} {at} l h e = record { begins = e; good = ap (is_vertex s) e ∙ l.good v h }

-- no vertex below v lies beyond the range, and its line begins here
pub record Searched (s : List ℕ) (at v : ℕ) : Type 0 where
  pub here : at ≡ vertex_at s v
  pub clear : Clear (text_beyond s) v

pub searched_none : {s : List ℕ} {count from : ℕ} → VertexLines s count from → Searched s from 0
searched_none l = record { here = l.begins; clear = clear_none }

pub searched_more : {s : List ℕ} {at v next : ℕ} {b : Bool} → Searched s at v → b ≡ text_beyond s v → b ≡ false → next ≡ vertex_at s (v + 1)
    → Searched s next (v + 1)
searched_more k e h n = record { here = n; clear = clear_more k.clear (sym e ∙ h) }

-- ---- the points written

pub row_written : {s : List ℕ} {v next : ℕ} {x y z x' y' z' : ℤ} {l : List ℤ} → PointRead s v x y z next → x' ≡ x → y' ≡ y → z' ≡ z → v * 3 + 3 ≤ length l
    → Put l (v * 3) (point_row s v) (set (set (set l (v * 3) x') (v * 3 + 1) y') (v * 3 + 2) z')
row_written k e f g h =
    rw (← k.x_is, ← k.y_is, ← k.z_is, ← e, ← f, ← g)
    (then (then (put_one (omega arith)) (put_one (simp length-set (omega arith))) refl) (put_one (simp length-set (omega arith))) refl)

-- the points below v are written, and the line of v begins here
pub record FilledTo (s : List ℕ) (old new : List ℤ) (at v : ℕ) : Type 0 where
  pub here : at ≡ vertex_at s v
  pub long : length new ≡ length old
  pub written : Put old 0 (point_rows (text_point s) v) new

pub filled_none : {s : List ℕ} {l : List ℤ} {count from : ℕ} → VertexLines s count from → FilledTo s l l from 0
unfolding point_rows
filled_none k = record { here = k.begins; long = refl; written = put_none (omega arith) }

pub filled_more : {s : List ℕ} {old m new : List ℤ} {at v next : ℕ} → FilledTo s old m at v → Put m (v * 3) (point_row s v) new → next ≡ vertex_at s (v + 1)
    → FilledTo s old new next (v + 1)
unfolding point_rows
filled_more {s} {old} {m} {new} {at} {v} k p e = record {
  here = e;
  long = put_length p ∙ k.long;
  written = rows_next (point_row s) v k.written p (omega (arith, length_gather (point_row s) 3 (λ j. refl) v));
}

pub filled_all : {s : List ℕ} {old new : List ℤ} {at v : ℕ} (count : ℕ) → FilledTo s old new at v → v ≤ count → count ≤ v
    → Put old 0 (point_rows (text_point s) count) new
unfolding point_rows
filled_all {s} {old} {new} {at} {v} count k a b = rows_all (point_row s) v count k.written a b
