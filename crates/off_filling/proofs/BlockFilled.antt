-- A block of vertices: which of its rows can be written, and that there is less ahead behind it. Assumes nothing.
use mathlib.Core.Path.{◌≡◌, sym, subst}
use mathlib.Core.Bool.{true}
use mathlib.Core.List.{List}
use Prim.Native.Nat.{ℕ, ◌+◌, ◌-◌, ◌≤◌, ◌<◌}
use native.Mathlib.Nat.{mul-le-mul_right}
use native.Mathlib.Omega.{arith}
use lib.ListN.{get_or}
use borrow.Author.Tests.{ltb-true, ltb-false}
use Rattle.mesh.specs.Search.{first}
use Rattle.mesh.proofs.First.{first_le, first_clear, first_at}
use Rattle.rings.specs.Table.{Lent}
use Rattle.off_text.specs.Layout.{text_faces}
use Rattle.off_fans.specs.Rows.{Room}
use Rattle.off_gather.specs.Gathering.{FaceLines, Gathered, SameRoom}
use Rattle.off_gather.proofs.Gathering.{room_same}
use Rattle.off_gather.proofs.Rows.{row_count, gathered_all, tables_room}
use Rattle.off_blocks.specs.Blocks.{places, Width, Block, Tables, ahead}
use Rattle.off_filling.specs.Filling.{over_at, Narrow, Fillable, Filled, Stepped}

-- the rows of a block are gathered, and j is the first of them that is over its width, or their number
pub record Reached (s : List ℕ) (count at width rows j : ℕ) (counts froms tos : List ℕ) : Type 0 where
  pub block : Block width (count - at) rows
  pub room : Room rows width counts froms tos
  pub gathered : Gathered s at rows width (text_faces s) counts froms tos
  pub over : j ≡ first (over_at width counts) rows

pub reached : {s : List ℕ} {faces from count at width rows j : ℕ} {c f z c' f' z' : List ℕ} → FaceLines s faces from → Tables c f z
    → Block width (count - at) rows → Gathered s at rows width faces c' f' z' → SameRoom c f z c' f' z' → j ≡ first (over_at width c') rows
    → Reached s count at width rows j c' f' z'
reached {s} {faces} {from} {count} {at} {width} {rows} {j} {c} {f} {z} {c'} {f'} {z'} l k b g same e = record {
  block = b;
  room = room_same same (tables_room b k);
  gathered = gathered_all l g;
  over = e;
}

module _ {s : List ℕ} {count at width rows j : ℕ} {counts froms tos : List ℕ} (r : Reached s count at width rows j counts froms tos) where
  few_rows : j ≤ rows
  few_rows = omega (arith, r.over, first_le (over_at width counts) rows)

  pub rows_within : at < count → at + j ≤ count
  rows_within h = omega (arith, few_rows, r.block.within)

  -- the rows before it
  pub rows_room : Room j width counts froms tos
  rows_room = record {
    counts_long = omega (arith, few_rows, r.room.counts_long);
    froms_long = omega (arith, mul-le-mul_right {m = j} {n = rows} width few_rows, r.room.froms_long);
    tos_long = omega (arith, mul-le-mul_right {m = j} {n = rows} width few_rows, r.room.tos_long);
  }

  pub rows_gathered : Gathered s at j width (text_faces s) counts froms tos
  rows_gathered = record {
    fans = record {
      from = λ i l. r.gathered.fans.from i (omega (arith, few_rows));
      to = λ i l. r.gathered.fans.to i (omega (arith, few_rows));
    };
  }

  pub rows_narrow : Narrow width j counts
  rows_narrow = record { narrow = λ i l. ltb-false width (get_or counts i 0) ((first_clear (over_at width counts) rows).below i (omega (arith, r.over))) }

  -- a row is over only where it is narrow
  pub over_narrow : {t : Lent} → Fillable s count t → at < count → j < rows → width < places
  over_narrow f h l =
      omega (arith, over_here, row_count r.gathered l, f.most (at + j) (omega (arith, r.block.within)))
    where
      over_here : width < get_or counts j 0
      over_here =
          ltb-true width (get_or counts j 0)
          (subst (λ i. over_at width counts i ≡ true) (sym r.over) (first_at (over_at width counts) rows (omega (arith, r.over))))

  module _ {width' : ℕ} {t t' : Lent} (h : at < count) (w : Width width) (w' : Width width') (p : Filled s at j t t') where
    filled_here : Filled s at (at + j - at) t t'
    filled_here = let e : at + j - at ≡ j = omega arith in subst (λ i. Filled s at i t t') (sym e) p

    pub stepped_full : rows ≤ j → Stepped s count at width (at + j) width' t t'
    unfolding ahead
    stepped_full l = record {
      wide = w';
      further = omega arith;
      within = rows_within h;
      filled = filled_here;
      nearer = omega (arith, w.high, w'.high, r.block.some (omega arith), rows_within h);
    }

    pub stepped_over : width < width' → Stepped s count at width (at + j) width' t t'
    unfolding ahead
    stepped_over l = record {
      wide = w';
      further = omega arith;
      within = rows_within h;
      filled = filled_here;
      nearer = omega (arith, w.high, w'.high, rows_within h);
    }
