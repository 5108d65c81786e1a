-- The numbers of new vertices, row after row, and in a row by ascending neighbour: how the sweep over the new vertices meets each of them once. Assumes nothing.
use Prim.Native.Nat.{ℕ, suc, ◌+◌, ◌≤◌, ◌<◌}
use mathlib.Core.Path.{◌≡◌, refl, sym, ap, ◌∙◌}
use mathlib.Core.Bool.{Bool, false}
use mathlib.Core.List.{List}
use native.Mathlib.Nat.{add-zero}
use native.Mathlib.Numerals.{add-one}
use native.Mathlib.Omega.{arith}
use lib.ListN.{length, get_or}
use Rattle.mesh.specs.Search.{first}
use Rattle.mesh.specs.Ring.{◌∈◌, Distinct}
use Rattle.mesh.specs.Numbering.{below, start}
use Rattle.mesh.specs.Mesh.{Mesh, edges, over, up}
use Rattle.mesh.proofs.Lists.{below_suc, climbs}
use Rattle.mesh.proofs.First.{Clear, clear_more, first_clear, first_at, first_is, first_end}
use Rattle.mesh.proofs.Edges as E
use Rattle.mesh.proofs.Rings.{get_or_in}
use Rattle.mesh.proofs.Overs.{over_none, over_next, over_left}
use Rattle.loop_step.specs.Refine.{mid}
use Rattle.loop_step.proofs.RefinedRows.{first_start, next_start, last_start, edge_number}
use Rattle.rings.specs.Table.{Lent, ring_of, rows}
use Rattle.rings.proofs.Rows.{rows_ring}
use Rattle.loop_points.specs.Level.{Ready, start_of}

-- ---- searches that go on where another ended

pub clear_first : (p : ℕ → Bool) (n : ℕ) {i : ℕ} → i ≡ first p n → Clear p i
clear_first p n e = rw e (first_clear p n)

pub clear_to : (p : ℕ → Bool) (n : ℕ) {i : ℕ} → i ≡ first p n → n ≤ i → Clear p n
clear_to p n e h = record { below = λ k l. (clear_first p n e).below k (omega arith) }

pub clear_next : {p : ℕ → Bool} (a i : ℕ) → Clear p (a + i) → p (a + i) ≡ false → Clear p (a + (i + 1))
clear_next {p} a i all here = let e : a + i + 1 ≡ a + (i + 1) = omega arith in rw e at (clear_more all here)

-- none of the numbers after a is looked at yet
pub clear_here : {p : ℕ → Bool} {a : ℕ} → Clear p a → Clear p (a + 0)
clear_here {p} {a} all = rw (add-zero a) all

pub clear_all : {p : ℕ → Bool} {n : ℕ} → Clear p n → n ≡ first p n
clear_all all = first_end all (omega arith) (omega arith)

-- the first below a bound, in a search that looked further
pub first_below : (p : ℕ → Bool) (a b : ℕ) {i : ℕ} → i ≡ first p a → i < a → a ≤ b → i ≡ first p b
first_below p a b {i} e l h = first_is (clear_first p a e) (omega arith) (ap p e ∙ first_at p a (omega arith))

-- ---- where the numbers of a row begin

module _ {n : ℕ} {t : Lent} (r : Ready n t) where
  abbrev M : Mesh
  M = rows n t

  pub start_zero : start_of n t 0 ≡ 0
  unfolding start_of
  start_zero = first_start M

  start_step : (p : ℕ) → start_of n t (suc p) ≡ start_of n t p + length (up M p)
  unfolding start_of
  start_step = next_start M

  up_is : {p : ℕ} → p < n → up M p ≡ over p (ring_of t p)
  unfolding up
  up_is {p} h = ap (over p) (rows_ring n t p h)

  pub start_next : {p : ℕ} → p < n → (s : ℕ) → s ≡ start_of n t p → (table : List ℕ) → table ≡ ring_of t p → (k : ℕ) → k ≡ length (over p table) → s + k ≡ start_of n t (suc p)
  start_next {p} h s e table d k f =
      let a = start_step p in
      let b : length (up M p) ≡ length (over p table) = ap length (up_is h ∙ ap (over p) (sym d)) in
      omega arith

  pub start_more : {p : ℕ} → p < n → (s : ℕ) → s ≡ start_of n t p → (table : List ℕ) → table ≡ ring_of t p → (k : ℕ) → k ≡ length (over p table) → s + k ≡ start_of n t (p + 1)
  start_more {p} h s e table d k f = rw (add-one p) (start_next h s e table d k f)

  start_end : start_of n t n ≡ edges M
  unfolding start_of rows
  start_end = last_start M r.sound

  pub start_most : (p : ℕ) → p ≤ n → {s : ℕ} → s ≡ start_of n t p → s ≤ edges M
  start_most p h a = let e = start_end in omega (arith, climbs (start_of n t) (λ i. omega (arith, start_step i)) p n h)

  pub start_within : {p : ℕ} → p < n → (s : ℕ) → s ≡ start_of n t p → (table : List ℕ) → table ≡ ring_of t p → (k : ℕ) → k ≡ length (over p table) → s + k ≤ edges M
  start_within {p} h s e table d k f = start_most (p + 1) (omega arith) (start_more h s e table d k f)

  pub start_all : (p : ℕ) → p ≤ n → n ≤ p → {s : ℕ} → s ≡ start_of n t p → s ≡ edges M
  start_all p h g a = let e : p ≡ n = omega arith in a ∙ ap (start_of n t) e ∙ start_end

  -- a row's numbers begin where they end, or before
  pub start_row : {p : ℕ} → p < n → {s e : ℕ} → s ≡ start_of n t p → e ≡ start_of n t (suc p) → s ≤ e
  start_row {p} h a b = omega (arith, start_step p)

-- ---- the neighbours over p, by ascending number

over_one_more : (p q : ℕ) (l : List ℕ) → Distinct l → q ∈ l → p < q → below (suc q) (over p l) ≡ below q (over p l) + 1
over_one_more p q l d m h = omega (arith, below_suc q (over p l), E.over_in q p l h, d q)

-- those up to `last` are passed, and the edge after `start` and them is x
pub record Passed (ring : List ℕ) (p start last x : ℕ) : Type 0 where
  pub low : p ≤ last
  pub next : x ≡ start + below (suc last) (over p ring)

pub passed_none : (ring : List ℕ) (p start : ℕ) → Passed ring p start p start
passed_none ring p start = record { low = omega arith; next = omega (arith, over_none p ring) }

module _ {n : ℕ} {t : Lent} (r : Ready n t) {p : ℕ} (h : p < n) {s : ℕ} (a : s ≡ start_of n t p) {e : ℕ} (b : e ≡ start_of n t (suc p)) {last x : ℕ} (k : Passed (ring_of t p) p s last x) (l : x < e)
    (table : List ℕ) (d : table ≡ ring_of t p) where
  passed_here : x ≡ s + below (suc last) (over p table)
  passed_here = rw d k.next

  pub passed_left : 0 < length (over last table)
  passed_left =
      let f = start_next r h s a table d (length (over p table)) refl in
      let g = passed_here in
      over_left p last table k.low (omega arith)

  module _ (i : ℕ) (m : i < length table) (o : last < get_or table i 0) (z : below (get_or table i 0) (over last table) ≡ 0) where
    passed_rank : x ≡ s + below (get_or table i 0) (over p table)
    passed_rank = let w = over_next p last (get_or table i 0) table k.low o z in let g = passed_here in omega arith

    pub passed_mid : n + x ≡ mid (rows n t) p (get_or (ring_of t p) i 0)
    unfolding rows start_of
    passed_mid =
        let g = passed_rank in
        let w = edge_number (rows n t) p (get_or table i 0) (let v = k.low in omega arith) in
        let v : below (get_or table i 0) (up (rows n t) p) ≡ below (get_or table i 0) (over p table) = ap (below (get_or table i 0)) (up_is r h ∙ ap (over p) (sym d)) in
        rw (← d) (omega arith)

    pub passed_more : Passed (ring_of t p) p s (get_or table i 0) (x + 1)
    unfolding rows
    passed_more =
        let once : Distinct table = rw d (rw (rows_ring n t p h) at (r.sound.proper p h).distinct) in
        let g = passed_rank in
        rw (← d) (record { low = let w = k.low in omega arith; next = omega (arith, over_one_more p (get_or table i 0) table once (get_or_in table i 0 m) (let w = k.low in omega arith)) })
