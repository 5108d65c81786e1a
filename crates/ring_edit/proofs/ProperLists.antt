-- Lists that may be the ring of v: what each edit makes of one. Assumes nothing.
use mathlib.Core.Path.{◌≡◌, refl, sym, ap}
use mathlib.Core.Bool.{Bool, true, false, cond, ◌||◌, ◌&&◌}
use mathlib.Core.List.{List}
use mathlib.Core.Logic.{⊎_elim, ◌≢◌}
use Prim.Native.Nat.{ℕ, suc, ◌+◌, ◌≤◌, ◌<◌}
use native.Mathlib.Omega.{arith}
use lib.Dec.{eqb, leb}
use lib.ListN.{length, set, length-set}
use borrow.Author.Tests.{le-ltb, ltb-false, eqb-false, leb-false}
use Rattle.mesh.specs.Search.{bit, some}
use Rattle.mesh.specs.Ring.{times, has, place}
use Rattle.mesh.specs.Edits.{closed, opened, erase, replace, insert_after, insert_before}
use Rattle.mesh.specs.Mesh.{Mesh, Proper}
use Rattle.mesh.specs.Tests.{bad_at, improper}
use Rattle.mesh.proofs.Lists.{eq_split}
use Rattle.mesh.proofs.First.{or_false, or_both}
use Rattle.mesh.proofs.Rings.{place_lt}
use Rattle.mesh.proofs.Places.{has_in}
use Rattle.mesh.proofs.Checked.{proper_of}
use Rattle.mesh.proofs.EditPlaces.{opened_length, opened_times, closed_length, closed_times, set_times}

-- the mesh of n vertices in which every ring is l: `Proper (alone n l) v` says that l may be the ring of v
abbrev pub alone : ℕ → List ℕ → Mesh
alone n l = record { count = n; ring = λ _. l }

pub same_proper : (M N : Mesh) (v : ℕ) → M.count ≡ N.count → M.ring v ≡ N.ring v → Proper M v → Proper N v
same_proper M N v p q P = record { short = rw (← q) P.short; known = rw (← p, ← q) P.known; other = rw (← q) P.other; distinct = rw (← q) P.distinct }

pub made_proper : (n v : ℕ) (l : List ℕ) → length l ≤ 32 → some (bad_at n v l) (length l) ≡ false → Proper (alone n l) v
unfolding improper
made_proper n v l h g = proper_of (alone n l) v (or_both _ _ (le-ltb 32 (length l) h) g)

-- ---- a list with no entry that another lacks, or only x

module _ (n v : ℕ) (l r : List ℕ) (P : Proper (alone n l) v) (short : length r ≤ 32) where
  pub part_proper : ((y : ℕ) → times y r ≤ times y l) → Proper (alone n r) v
  part_proper f = record { short = short; known = λ u m. P.known u (omega (arith, f u)); other = λ m. P.other (omega (arith, f v)); distinct = λ u. omega (arith, f u, P.distinct u) }

  pub more_proper : (x : ℕ) → x < n → x ≢ v → times x l ≡ 0 → ((y : ℕ) → times y r ≤ bit (eqb y x) + times y l) → Proper (alone n r) v
  more_proper x known other new f = record {
    short = short;
    known = λ u m. ⊎_elim (λ e. omega arith) (λ e. P.known u (omega (arith, f u, ap bit e.0))) (eq_split u x);
    other = λ m. ⊎_elim (λ e. other (sym e.1)) (λ e. P.other (omega (arith, f v, ap bit e.0))) (eq_split v x);
    distinct = λ u. ⊎_elim (λ e. omega (arith, f u, ap bit e.0, ap (λ (y : ℕ). times y l) e.1)) (λ e. omega (arith, f u, ap bit e.0, P.distinct u)) (eq_split u x);
  }

-- ---- the edits

pub erase_part : (x : ℕ) (l : List ℕ) → (length (erase x l) ≤ length l) × ((y : ℕ) → times y (erase x l) ≤ times y l)
unfolding erase
erase_part x l = go (has x l) refl
  where
    go : (b : Bool) → has x l ≡ b → (length (cond b (closed l (place x l)) l) ≤ length l) × ((y : ℕ) → times y (cond b (closed l (place x l)) l) ≤ times y l)
    go true e = let h = place_lt x l (has_in x l e) in (omega (arith, closed_length l (place x l) h), λ y. omega (arith, closed_times y l (place x l) h))
    go false e = (omega arith, λ y. omega arith)

module _ (a x : ℕ) (l : List ℕ) where
  pub replace_more : (length (replace a x l) ≤ length l) × ((y : ℕ) → times y (replace a x l) ≤ bit (eqb y x) + times y l)
  unfolding replace
  replace_more = go (has a l) refl
    where
      go : (b : Bool) → has a l ≡ b → (length (cond b (set l (place a l) x) l) ≤ length l) × ((y : ℕ) → times y (cond b (set l (place a l) x) l) ≤ bit (eqb y x) + times y l)
      go true e = (omega (arith, length-set l (place a l) x), λ y. omega (arith, set_times y l (place a l) x (place_lt a l (has_in a l e))))
      go false e = (omega arith, λ y. omega arith)

  -- x put in at place i where a is there, if the ring is not full
  open_more : (m i : ℕ) → length l ≤ m → m ≤ 32 → has a l && leb 32 m ≡ false
      → (length (cond (has a l) (opened l i x) l) ≤ 32) × ((y : ℕ) → times y (cond (has a l) (opened l i x) l) ≤ bit (eqb y x) + times y l)
  open_more m i h k = go (has a l)
    where
      go : (b : Bool) → b && leb 32 m ≡ false → (length (cond b (opened l i x) l) ≤ 32) × ((y : ℕ) → times y (cond b (opened l i x) l) ≤ bit (eqb y x) + times y l)
      go true e = let room : m < 32 = leb-false 32 m e in (omega (arith, opened_length l i x), λ y. omega (arith, opened_times y l i x))
      go false e = (omega arith, λ y. omega arith)

  pub after_more : (m : ℕ) → length l ≤ m → m ≤ 32 → has a l && leb 32 m ≡ false → (length (insert_after a x l) ≤ 32) × ((y : ℕ) → times y (insert_after a x l) ≤ bit (eqb y x) + times y l)
  unfolding insert_after
  after_more m h k e = open_more m (suc (place a l)) h k e

  pub before_more : (m : ℕ) → length l ≤ m → m ≤ 32 → has a l && leb 32 m ≡ false → (length (insert_before a x l) ≤ 32) × ((y : ℕ) → times y (insert_before a x l) ≤ bit (eqb y x) + times y l)
  unfolding insert_before
  before_more m h k e = open_more m (place a l) h k e

-- x is neither v nor in the list
pub free_entry : (x v : ℕ) (l : List ℕ) → eqb x v || has x l ≡ false → (x ≢ v) × (times x l ≡ 0)
unfolding has
free_entry x v l e = let a = or_false _ _ e in (eqb-false x v a.0, let h : times x l ≤ 0 = ltb-false 0 (times x l) a.1 in omega arith)
