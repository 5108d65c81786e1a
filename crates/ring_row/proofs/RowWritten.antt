-- One row rewritten: what stands where in a ring with a place taken out or put in, and how a loop over the ring's places with the padding behind them gives the whole row.
-- Assumes nothing.
use Prim.Native.Nat.{ℕ, suc, ◌+◌, ◌-◌, ◌*◌, ◌≤◌, ◌<◌}
use mathlib.Core.Path.{◌≡◌, sym, ap, ◌∙◌}
use mathlib.Core.List.{List, [], ◌++◌, append-nil}
use native.Mathlib.Numerals.{add-one}
use native.Mathlib.Omega.{arith}
use lib.ListN.{length, get_or, take, drop, replicate, length-replicate, drop_of_length-le}
use lib.Seq.{get_or-take, ext_get_or, length-take-le}
use Rattle.mesh.specs.Limits.{null_vertex}
use Rattle.mesh.specs.Edits.{closed, opened}
use Rattle.rings.specs.Table.{put, padded}
use Rattle.rings.proofs.Rewrite.{Written}
use Rattle.mesh.proofs.EditPlaces.{opened_after, opened_closed, closed_length, closed_before}

-- ---- a ring with a place taken out or put in, as the loops move its entries

module _ (l : List ℕ) (i : ℕ) (here : i < length l) where
  closed_here : i ≤ length (closed l i)
  closed_here = let k = closed_length l i here in omega arith

  pub closed_below : (j : ℕ) → j < i → get_or l j 0 ≡ get_or (closed l i) j 0
  closed_below j h = sym (closed_before l i j here h)

  pub closed_moved : (j : ℕ) → i ≤ j → get_or l (j + 1) 0 ≡ get_or (closed l i) j 0
  closed_moved j h =
      ap (λ (k : ℕ). get_or l k 0) (add-one j)
      ∙ ap (λ (r : List ℕ). get_or r (suc j) 0) (sym (opened_closed l i here))
      ∙ opened_after (closed l i) i (get_or l i 0) j 0 h closed_here

pub opened_moved : (l : List ℕ) (i x : ℕ) → i ≤ length l → (j : ℕ) → i ≤ j → get_or l j 0 ≡ get_or (opened l i x) (j + 1) 0
opened_moved l i x here j h = sym (ap (λ (k : ℕ). get_or (opened l i x) k 0) (add-one j) ∙ opened_after l i x j 0 h here)

-- ---- the places behind a ring

-- the ring of n at the front of a row
module _ (row : List ℕ) (n : ℕ) (long : length row ≡ 32) (most : n ≤ 32) where
  pub length_front : length (take n row) ≡ n
  length_front = length-take-le n row (omega arith)

  -- the null vertex in its other places
  pub front_padded : put row (0 * 32 + n) (replicate (32 - n) null_vertex) ≡ padded (take n row)
  unfolding put padded
  front_padded =
      let others : List ℕ = replicate (32 - n) null_vertex in
      let z : 0 * 32 + n ≡ n = omega arith in
      let w : length others ≡ 32 - n = length-replicate (32 - n) null_vertex in
      let e : drop (n + length others) row ≡ [] = drop_of_length-le row {i = n + length others} (omega arith) in
      ap (λ (k : ℕ). take k row ++ (others ++ drop (k + length others) row)) z
      ∙ ap (λ (x : List ℕ). take n row ++ (others ++ x)) e
      ∙ ap (λ (x : List ℕ). take n row ++ x) (append-nil others)
      ∙ ap (λ (k : ℕ). take n row ++ replicate (32 - k) null_vertex) (sym length_front)

-- a row whose front was rewritten to a ring, place by place, and whose other places were padded then
pub front_written : {ring old row : List ℕ} {k : ℕ} → Written ring old k row → (n : ℕ) → length ring ≡ n → n ≤ k → n ≤ length old → (padding : List ℕ) → padding ≡ padded (take n row) → padding ≡ padded ring
front_written {ring} {old} {row} w n e h m padding q =
    let t = w.long in
    let k : length (take n row) ≡ n = length-take-le n row (omega arith) in
    q ∙ ap padded (ext_get_or 0 (take n row) ring (k ∙ sym e) (λ j l. get_or-take n row j 0 (omega arith) ∙ w.done j (omega arith)))
