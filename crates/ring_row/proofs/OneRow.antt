-- One row written: the ring that is then read out of it, and all else as it was. Assumes nothing.
use mathlib.Core.Path.{◌≡◌, refl, sym, ◌∙◌}
use mathlib.Core.Bool.{true}
use mathlib.Core.List.{List, append_assoc}
use mathlib.Core.Logic.{⊎_elim, ◌≢◌}
use Prim.Native.Nat.{ℕ, ◌+◌, ◌*◌, ◌≤◌, ◌<◌}
use native.Mathlib.Omega.{arith}
use lib.ListN.{length, get_or, take, drop, length-set, length-take, length-drop}
use lib.Seq.{get_or-set_same, get_or-set_other, get_or-take, get_or-drop, ext_get_or, drop_at, take_at, length-take-le}
use Rattle.mesh.specs.Limits.{most_valence}
use Rattle.mesh.proofs.Lists.{lt_split}
use Rattle.rings.specs.Accepts.{Room}
use Rattle.rings.specs.Table.{Lent, lent, valence_at, put, padded, ring_of}
use Rattle.rings.proofs.Tables.{length_put, put_before, put_behind, length_padded}
use Rattle.ring_row.specs.Places.{Editable}
use Rattle.ring_row.specs.Edit.{valences_with, rings_with}

-- ---- which rows can be written

pub room_editable : {n : ℕ} {t : Lent} → Room n t → {v : ℕ} → v < n → Editable t v
room_editable r h = record { valence = omega (arith, r.valences); row = omega (arith, r.rings) }

pub same_editable : {t t' : Lent} {v : ℕ} → Editable t v → length t'.valences ≡ length t.valences → length t'.rings ≡ length t.rings → Editable t' v
same_editable e a b = record { valence = omega (arith, e.valence); row = omega (arith, e.row) }

-- ---- what stays

-- from the tables t to t' only v's valence and row changed
pub record OneRow (t : Lent) (v : ℕ) (t' : Lent) : Type 0 where
  pub valences_long : length t'.valences ≡ length t.valences
  pub rings_long : length t'.rings ≡ length t.rings
  pub valence : (u : ℕ) → u ≢ v → valence_at t' u ≡ valence_at t u
  pub before : (j : ℕ) → j < v * most_valence → get_or t'.rings j 0 ≡ get_or t.rings j 0
  pub behind : (j : ℕ) → v * most_valence + most_valence ≤ j → get_or t'.rings j 0 ≡ get_or t.rings j 0

-- so another ring that lies in its own row is what it was
pub other_ring : {t t' : Lent} {v : ℕ} → OneRow t v t' → (u : ℕ) → u ≢ v → valence_at t u ≤ most_valence
    → ring_of t' u ≡ ring_of t u
unfolding ring_of
other_ring {t} {t'} {v} w u d m =
    let n : ℕ = valence_at t u in
    let old : List ℕ = drop (u * 32) t.rings in
    let new : List ℕ = drop (u * 32) t'.rings in
    rw (w.valence u d)
    (ext_get_or 0 (take n new) (take n old) (let l = w.rings_long in simp (length-take, length-drop) (omega arith)) (λ j h.
    let k : j < n = short j h in
    get_or-take n new j 0 k ∙ get_or-drop (u * 32) t'.rings j 0 ∙ same j k ∙ sym (get_or-take n old j 0 k ∙ get_or-drop (u * 32) t.rings j 0)))
  where
    short : (j : ℕ) → j < length (take (valence_at t u) (drop (u * 32) t'.rings)) → j < valence_at t u
    short j h = let k = simp length-take at h in omega arith

    same : (j : ℕ) → j < valence_at t u → get_or t'.rings (u * 32 + j) 0 ≡ get_or t.rings (u * 32 + j) 0
    same j k = ⊎_elim (λ l. w.before (u * 32 + j) (omega (arith, l.1))) (λ l. w.behind (u * 32 + j) (omega (arith, l.1))) (lt_split u v)

-- ---- a ring written

module _ (t : Lent) (v : ℕ) (ed : Editable t v) (ring : List ℕ) where
  pub written_valence : get_or (valences_with true t.valences v ring) v 0 ≡ length ring
  unfolding valences_with
  written_valence = get_or-set_same t.valences v (length ring) 0 ed.valence

  pub written_ring : ring_of (lent (valences_with true t.valences v ring) (rings_with true t.rings v ring)) v ≡ ring
  unfolding ring_of rings_with put padded
  written_ring =
      let l : length (take (v * 32) t.rings) ≡ v * 32 = length-take-le (v * 32) t.rings (let r = ed.row in omega arith) in
      rw (written_valence, drop_at (take (v * 32) t.rings) _ (v * 32) l, append_assoc) (take_at ring _ (length ring) refl)

  pub written_one_row : length ring ≤ most_valence → OneRow t v (lent (valences_with true t.valences v ring) (rings_with true t.rings v ring))
  unfolding valences_with rings_with
  written_one_row h =
      let k = length_padded ring h in
      let f : v * 32 + length (padded ring) ≤ length t.rings = let r = ed.row in omega arith in
      record {
        valences_long = length-set t.valences v (length ring);
        rings_long = length_put t.rings (v * 32) (padded ring) f;
        valence = λ u d. get_or-set_other t.valences v u (length ring) 0 d;
        before = λ j l. put_before t.rings (v * 32) (padded ring) f 0 j l;
        behind = λ j l. put_behind t.rings (v * 32) (padded ring) f 0 j (omega arith);
      }
