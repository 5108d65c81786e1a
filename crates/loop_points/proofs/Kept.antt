-- What is written behind the first n rows leaves their mesh as it is. Assumes nothing.
use Prim.Native.Nat.{ℕ, ◌+◌, ◌-◌, ◌*◌, ◌≤◌, ◌<◌, min}
use mathlib.Core.Path.{◌≡◌, refl, sym, ◌∙◌}
use mathlib.Core.List.{List}
use native.Mathlib.Omega.{arith}
use lib.ListN.{length, get_or, take, drop, length-take, length-drop}
use lib.Seq.{get_or-take, get_or-drop, ext_get_or}
use Rattle.mesh.proofs.SoundMeshes.{mesh_same}
use Rattle.loop_step.specs.Refine.{mid}
use Rattle.rings.specs.Table.{Lent, lent, valence_at, put, ring_of, rows}
use Rattle.rings.proofs.Tables.{length_put, put_before}
use Rattle.loop_points.specs.Level.{Ready, HasOld, start_of}

-- tables whose first n rows are the same have the same mesh there
pub rows_kept : (n : ℕ) (t t' : Lent) → ((v : ℕ) → v < n → valence_at t' v ≡ valence_at t v) → ((v : ℕ) → v < n → ring_of t' v ≡ ring_of t v)
    → rows n t' ≡ rows n t
unfolding rows
rows_kept n t t' h g = mesh_same n (ring_of t') (ring_of t) g

-- a ring that ends before a written block
pub ring_kept : (t : Lent) (a : ℕ) (b : List ℕ) → a + length b ≤ length t.rings → (v : ℕ) → v * 32 + valence_at t v ≤ a → ring_of (lent t.valences (put t.rings a b)) v ≡ ring_of t v
unfolding ring_of
ring_kept t a b fits v h =
    let m : ℕ = valence_at t v in
    let e : length (put t.rings a b) ≡ length t.rings = length_put t.rings a b fits in
    let long : (z : List ℕ) → length (take m (drop (v * 32) z)) ≡ min m (length z - v * 32) = λ z. simp (length-take, length-drop) in
    ext_get_or 0 (take m (drop (v * 32) (put t.rings a b))) (take m (drop (v * 32) t.rings)) (long (put t.rings a b) ∙ rw e (sym (long t.rings))) (λ i l.
    let s : i < m = omega (arith, long (put t.rings a b)) in
    get_or-take m (drop (v * 32) (put t.rings a b)) i 0 s ∙ get_or-drop (v * 32) (put t.rings a b) i 0 ∙ put_before t.rings a b fits 0 (v * 32 + i) (omega arith)
    ∙ sym (get_or-take m (drop (v * 32) t.rings) i 0 s ∙ get_or-drop (v * 32) t.rings i 0))

-- a block written in the rings' table behind the first n rows
module _ (n : ℕ) (t : Lent) (r : Ready n t) (a : ℕ) (b : List ℕ) (fits : a + length b ≤ length t.rings) (behind : n * 32 ≤ a) where
  pub behind_ring : (v : ℕ) → v < n → ring_of (lent t.valences (put t.rings a b)) v ≡ ring_of t v
  behind_ring v l = ring_kept t a b fits v (let m = r.most v l in omega arith)

  pub behind_rows : rows n (lent t.valences (put t.rings a b)) ≡ rows n t
  behind_rows = rows_kept n t (lent t.valences (put t.rings a b)) (λ v l. refl) behind_ring

  pub behind_ready : Ready n (lent t.valences (put t.rings a b))
  behind_ready = record {
    room = rw behind_rows (record { valences = r.room.valences; rings = rw (length_put t.rings a b fits) r.room.rings });
    most = r.most;
    sound = rw behind_rows r.sound;
    fits = rw behind_rows r.fits;
  }

  pub behind_start : (p : ℕ) → start_of n (lent t.valences (put t.rings a b)) p ≡ start_of n t p
  unfolding start_of
  behind_start p = rw behind_rows

  pub behind_mid : (v i : ℕ) → v < n → mid (rows n (lent t.valences (put t.rings a b))) v (get_or (ring_of (lent t.valences (put t.rings a b)) v) i 0) ≡ mid (rows n t) v (get_or (ring_of t v) i 0)
  behind_mid v i l = rw (behind_rows, behind_ring v l)

  pub behind_old : (k : ℕ) → k ≤ n → (n + k) * 32 ≤ a → HasOld n t k → HasOld n (lent t.valences (put t.rings a b)) k
  behind_old k l h o = record {
    place = λ u g i m. let z = r.most u (omega arith) in put_before t.rings a b fits 0 ((n + u) * 32 + i) (omega arith) ∙ o.place u g i m ∙ sym (behind_mid u i (omega arith));
  }
