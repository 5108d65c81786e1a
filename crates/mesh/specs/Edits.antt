-- To be believed.
-- The ring edits of document 01's section "Ring rules", as edits of a list. Each but make is the list itself where the entry it works at is absent.
-- Assumes nothing.
use Rattle.std.specs.Prelude.{cond, List, ◌∷◌, ◌++◌, ℕ, suc, take, drop, set}
use Rattle.mesh.specs.Ring.{has, place}

-- the list without its place i: later places close up
unfoldable pub closed : List ℕ → ℕ → List ℕ
closed l i = take i l ++ drop (suc i) l

-- the list with x put in at place i: later places shift by one
unfoldable pub opened : List ℕ → ℕ → ℕ → List ℕ
opened l i x = take i l ++ (x ∷ drop i l)

-- the ring without x, or the same ring if x is absent
unfoldable pub erase : ℕ → List ℕ → List ℕ
erase x l = cond (has x l) (closed l (place x l)) l

-- the ring with x in the place of a
unfoldable pub replace : ℕ → ℕ → List ℕ → List ℕ
replace a x l = cond (has a l) (set l (place a l) x) l

-- the ring with x after a
unfoldable pub insert_after : ℕ → ℕ → List ℕ → List ℕ
insert_after a x l = cond (has a l) (opened l (suc (place a l)) x) l

-- the ring with x before a
unfoldable pub insert_before : ℕ → ℕ → List ℕ → List ℕ
insert_before a x l = cond (has a l) (opened l (place a l) x) l
