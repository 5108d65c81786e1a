-- The rings that are read out of tables with some rows written: those of the rows, and all others as they were. Assumes nothing.
use mathlib.Core.Path.{◌≡◌, refl, sym, ap, ◌∙◌}
use mathlib.Core.Bool.{cond}
use mathlib.Core.List.{List, [], ◌∷◌}
use mathlib.Core.Logic.{◌⊎◌, inl, inr, ⊎_elim, ◌≢◌}
use Prim.Native.Nat.{ℕ, ◌≤◌, ◌<◌}
use native.Mathlib.Omega.{arith}
use lib.Dec.{eqb}
use borrow.Author.Tests.{eq-eqb, ne_eqb}
use lib.ListN.{length, get_or}
use Rattle.mesh.specs.Limits.{most_valence}
use Rattle.mesh.proofs.Lists.{eq_split}
use Rattle.mesh.proofs.SoundMeshes.{mesh_same}
use Rattle.rings.specs.Table.{Lent, lent, valence_at, ring_of, rows}
use Rattle.rings.specs.Accepts.{Room}
use Rattle.rings.proofs.Rows.{rows_ring}
use Rattle.ring_row.specs.Places.{Editable}
use Rattle.ring_row.proofs.OneRow.{OneRow, room_editable, same_editable, other_ring, written_valence, written_ring, written_one_row}
use Rattle.reshape.specs.Rows.{Row, ring_by, rewritten}
use Rattle.reshape_tables.specs.Written.{valences_by, rings_by}

-- ---- which rows

-- v is the vertex of one of the rows
abbrev pub Named : ℕ → List Row → Type 0
Named v [] = ⊥
Named v (r ∷ l) = (v ≡ r.vertex) ⊎ Named v l

-- v is the vertex of none
abbrev pub Unnamed : ℕ → List Row → Type 0
Unnamed v [] = Unit {0}
Unnamed v (r ∷ l) = (v ≢ r.vertex) × Unnamed v l

-- the tables have places for the rows, and none is too long
abbrev pub Writable : Lent → List Row → Type 0
Writable t [] = Unit {0}
Writable t (r ∷ l) = Editable t r.vertex × ((length r.ring ≤ most_valence) × Writable t l)

-- a ring that the tables or the rows tell
abbrev pub Held : List ℕ → ℕ → List Row → Type 0
Held vs v l = (get_or vs v 0 ≤ most_valence) ⊎ Named v l

held_on : (vs : List ℕ) (v : ℕ) (r : Row) (l : List Row) → v ≢ r.vertex → Held vs v (r ∷ l) → Held vs v l
held_on vs v r l d (inl h) = inl h
held_on vs v r l d (inr (inl e)) = absurd (d e)
held_on vs v r l d (inr (inr m)) = inr m

ring_by_old : (l : List Row) (f g : ℕ → List ℕ) (v : ℕ) → f v ≡ g v → ring_by l f v ≡ ring_by l g v
ring_by_old [] f g v e = e
ring_by_old (r ∷ l) f g v e = ap (cond (eqb v r.vertex) r.ring) (ring_by_old l f g v e)

ring_by_named : (l : List Row) (f g : ℕ → List ℕ) (v : ℕ) → Named v l → ring_by l f v ≡ ring_by l g v
ring_by_named [] f g v m = absurd m
ring_by_named (r ∷ l) f g v (inl e) = rw (eq-eqb v r.vertex e)
ring_by_named (r ∷ l) f g v (inr m) = ap (cond (eqb v r.vertex) r.ring) (ring_by_named l f g v m)

ring_by_unnamed : (l : List Row) (f : ℕ → List ℕ) (v : ℕ) → Unnamed v l → ring_by l f v ≡ f v
ring_by_unnamed [] f v d = refl
ring_by_unnamed (r ∷ l) f v d = rw (ne_eqb v r.vertex d.0) (ring_by_unnamed l f v d.1)

-- ---- the tables

module _ (t : Lent) where
  pub lengths_by : (l : List Row) → Writable t l → (length (valences_by l t.valences) ≡ length t.valences) × (length (rings_by l t.rings) ≡ length t.rings)
  lengths_by [] w = (refl, refl)
  lengths_by (r ∷ l) w =
      let i = lengths_by l w.1.1 in
      let o = written_one_row (lent (valences_by l t.valences) (rings_by l t.rings)) r.vertex (same_editable w.0 i.0 i.1) r.ring w.1.0 in
      (o.valences_long ∙ i.0, o.rings_long ∙ i.1)

  pub editable_by : (l : List Row) → Writable t l → {v : ℕ} → Editable t v → Editable (lent (valences_by l t.valences) (rings_by l t.rings)) v
  editable_by l w e = let k = lengths_by l w in same_editable e k.0 k.1

  -- the row that is written last
  last_row : (r : Row) (l : List Row) → Writable t (r ∷ l)
      → OneRow (lent (valences_by l t.valences) (rings_by l t.rings)) r.vertex (lent (valences_by (r ∷ l) t.valences) (rings_by (r ∷ l) t.rings))
  last_row r l w = written_one_row (lent (valences_by l t.valences) (rings_by l t.rings)) r.vertex (editable_by l w.1.1 w.0) r.ring w.1.0

  last_valence : (r : Row) (l : List Row) → Writable t (r ∷ l) → get_or (valences_by (r ∷ l) t.valences) r.vertex 0 ≡ length r.ring
  last_valence r l w = written_valence (lent (valences_by l t.valences) (rings_by l t.rings)) r.vertex (editable_by l w.1.1 w.0) r.ring

  last_ring : (r : Row) (l : List Row) → Writable t (r ∷ l) → ring_of (lent (valences_by (r ∷ l) t.valences) (rings_by (r ∷ l) t.rings)) r.vertex ≡ r.ring
  last_ring r l w = written_ring (lent (valences_by l t.valences) (rings_by l t.rings)) r.vertex (editable_by l w.1.1 w.0) r.ring

  pub valence_by : (l : List Row) → Writable t l → (v : ℕ) → Held t.valences v l → get_or (valences_by l t.valences) v 0 ≤ most_valence
  valence_by [] w v (inl h) = h
  valence_by [] w v (inr m) = absurd m
  valence_by (r ∷ l) w v h =
      ⊎_elim
      (λ g. let k = last_valence r l w in rw g.1 (omega (arith, w.1.0)))
      (λ g. let k = (last_row r l w).valence v g.1 in omega (arith, valence_by l w.1.1 v (held_on t.valences v r l g.1 h)))
      (eq_split v r.vertex)

  -- the ring of each vertex
  ring_by_lem : (l : List Row) → Writable t l → (v : ℕ) → Held t.valences v l → ring_of (lent (valences_by l t.valences) (rings_by l t.rings)) v ≡ ring_by l (ring_of t) v
  ring_by_lem [] w v h = refl
  ring_by_lem (r ∷ l) w v h =
      ⊎_elim
      (λ g. rw g.0 (ap (ring_of (lent (valences_by (r ∷ l) t.valences) (rings_by (r ∷ l) t.rings))) g.1 ∙ last_ring r l w))
      (λ g.
      let k = held_on t.valences v r l g.1 h in
      rw g.0 (other_ring (last_row r l w) v g.1 (valence_by l w.1.1 v k) ∙ ring_by_lem l w.1.1 v k))
      (eq_split v r.vertex)

  -- of a vertex that no row names
  pub valence_unnamed : (l : List Row) → Writable t l → (v : ℕ) → Unnamed v l → get_or (valences_by l t.valences) v 0 ≡ valence_at t v
  valence_unnamed [] w v d = refl
  valence_unnamed (r ∷ l) w v d = (last_row r l w).valence v d.0 ∙ valence_unnamed l w.1.1 v d.1

  pub ring_unnamed : (l : List Row) → Writable t l → (v : ℕ) → Unnamed v l → valence_at t v ≤ most_valence
      → ring_of (lent (valences_by l t.valences) (rings_by l t.rings)) v ≡ ring_of t v
  ring_unnamed l w v d h = ring_by_lem l w v (inl h) ∙ ring_by_unnamed l (ring_of t) v d

-- ---- the mesh

-- the rows are of vertices below n, and none is too long
abbrev pub RowsFit : ℕ → List Row → Type 0
RowsFit n [] = Unit {0}
RowsFit n (r ∷ l) = (r.vertex < n) × ((length r.ring ≤ most_valence) × RowsFit n l)

pub fit_writable : (n : ℕ) (t : Lent) → Room n t → (l : List Row) → RowsFit n l → Writable t l
fit_writable n t room [] f = tt
fit_writable n t room (r ∷ l) f = (room_editable room f.0, (f.1.0, fit_writable n t room l f.1.1))

-- the mesh of the tables is the mesh rewritten; the tables have room for n vertices, of which the first m stood there before
pub rows_by : (m n : ℕ) (t : Lent) → Room n t → ((v : ℕ) → v < m → valence_at t v ≤ most_valence) → (l : List Row) → RowsFit n l
    → ((v : ℕ) → v < n → (v < m) ⊎ Named v l) → rows n (lent (valences_by l t.valences) (rings_by l t.rings)) ≡ rewritten (rows m t) n l
unfolding rows rewritten
rows_by m n t room most l f known =
    let w = fit_writable n t room l f in
    mesh_same n (ring_of (lent (valences_by l t.valences) (rings_by l t.rings))) (ring_by l (rows m t).ring) (λ v h.
    ⊎_elim
    (λ k. ring_by_lem t l w v (inl (most v k)) ∙ ring_by_old l (ring_of t) (rows m t).ring v (sym (rows_ring m t v k)))
    (λ k. ring_by_lem t l w v (inr k) ∙ ring_by_named l (ring_of t) (rows m t).ring v k)
    (known v h))
