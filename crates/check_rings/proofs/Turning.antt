-- Rings that turn round each vertex are sound: one look at each place does for distinct neighbours, neighbours both ways, and triangles.
-- Assumes nothing.
use Prim.Native.Nat.{ℕ, zero, suc, ◌-◌, ◌≤◌, ◌<◌}
use mathlib.Core.Path.{◌≡◌, refl, sym, ap, subst, ◌∙◌}
use mathlib.Core.Bool.{Bool, true}
use mathlib.Core.List.{List}
use native.Mathlib.Omega.{arith}
use lib.ListN.{length, get_or}
use borrow.Author.Tests.{lt-ltb}
use Rattle.mesh.specs.Ring.{◌∈◌, Distinct, place, place_before, next, prev, Follows, follows}
use Rattle.mesh.specs.Mesh.{mesh, Sound}
use Rattle.mesh.proofs.Places.{before_first, before_other, follows_true}
use Rattle.mesh.proofs.Rings.{place_lt, get_or_place, prev_at, next_in, next_prev, next_next_ne}
use Rattle.mesh.proofs.RingsGoRound.{prev_of_next}
use Rattle.mesh.proofs.Checked.{distinct_places, sound_proper}
use Rattle.rings.specs.Table.{Lent, valence_at, ring_of, rows}
use Rattle.rings.specs.Accepts.{Room, HasRow, Fit}
use Rattle.check_rings.specs.Turning.{FitValences, Turns}
use Rattle.rings.proofs.Rows.{room_row, row_length, sound_row}

-- ---- one place after the other

pub turned_back : (r s : List ℕ) (v y : ℕ) {b : Bool} → r ≡ s → b ≡ follows r v y → b ≡ true → Follows s v y
turned_back r s v y q e h = follows_true s v y (subst (λ (table : List ℕ). follows table v y ≡ true) q (sym e ∙ h))

module _ (n : ℕ) (ring : ℕ → List ℕ) (v : ℕ) (r : List ℕ) (q : r ≡ ring v) where
  -- what is looked at at place k of the list l
  abbrev Looked : List ℕ → ℕ → Type 0
  Looked l k = (get_or l k 0 < n) × Follows (ring (get_or l k 0)) v (get_or l (place_before (length l) k) 0)

  pub turns_all : (i : ℕ) → length r ≡ i → (get_or r 0 0 < n) × Follows (ring (get_or r 0 0)) v (get_or r (length r - 1) 0)
      → ((k : ℕ) → 1 ≤ k → k < length r → (get_or r k 0 ≡ get_or r 0 0 → ⊥) × ((get_or r k 0 < n) × Follows (ring (get_or r k 0)) v (get_or r (k - 1) 0)))
      → Turns n ring v i
  turns_all i e first rest = record {
    known = λ k l. (turned k l).0;
    back = λ k l. (turned k l).1;
    once = λ k l m. subst (λ (table : List ℕ). get_or table k 0 ≡ get_or table 0 0 → ⊥) q (rest k m (omega arith)).0;
  }
    where
      looked : (k before : ℕ) → before ≡ place_before (length r) k → (get_or r k 0 < n) × Follows (ring (get_or r k 0)) v (get_or r before 0) → Looked r k
      looked k before p h = subst (λ (b : ℕ). (get_or r k 0 < n) × Follows (ring (get_or r k 0)) v (get_or r b 0)) p h

      seen : (k : ℕ) → k < length r → Looked r k
      seen zero l = looked 0 (length r - 1) (before_first (length r) 0 refl) first
      seen (suc k) l = looked (suc k) (suc k - 1) (before_other (length r) (suc k) (λ z. omega arith)) (rest (suc k) (omega arith) l).1

      turned : (k : ℕ) → k < i → Looked (ring v) k
      turned k l = subst (λ (table : List ℕ). Looked table k) q (seen k (omega arith))

-- ---- round each vertex

module _ (n : ℕ) (ring : ℕ → List ℕ) (long : (v : ℕ) → v < n → 3 ≤ length (ring v)) (turns : (v : ℕ) → v < n → Turns n ring v (length (ring v))) where
  module _ (v : ℕ) (h : v < n) where
    -- two places that hold the same vertex have the same vertex before them, and so on back to the first place
    apart : (i j : ℕ) → i < j → j < length (ring v) → get_or (ring v) i 0 ≡ get_or (ring v) j 0 → ⊥
    apart zero j l k e = (turns v h).once j k l (sym e)
    apart (suc i) zero l k e = absurd (omega arith)
    apart (suc i) (suc j) l k e =
        let before : (x : ℕ) → suc x < length (ring v) → next (ring (get_or (ring v) (suc x) 0)) v ≡ get_or (ring v) x 0 =
        λ x m. ((turns v h).back (suc x) m).1 ∙ ap (λ y. get_or (ring v) y 0) (sym (before_other (length (ring v)) (suc x) (λ z. omega arith)) ∙ (let z : suc x - 1 ≡ x = omega arith in z)) in
        apart i j (omega arith) (omega arith) (sym (before i (omega arith)) ∙ ap (λ u. next (ring u) v) e ∙ before j k)

    once : Distinct (ring v)
    once = distinct_places (ring v) apart

    module _ (u : ℕ) (m : u ∈ ring v) where
      known : u < n
      known = subst (λ (x : ℕ). x < n) (get_or_place u (ring v) 0 m) ((turns v h).known (place u (ring v)) (place_lt u (ring v) m))

      back : Follows (ring u) v (prev (ring v) u)
      back =
          subst (λ (x : ℕ). Follows (ring x) v (prev (ring v) u)) (get_or_place u (ring v) 0 m)
          (subst (λ (y : ℕ). Follows (ring (get_or (ring v) (place u (ring v)) 0)) v y) (sym (prev_at (ring v) u)) ((turns v h).back (place u (ring v)) (place_lt u (ring v) m)))

    -- v is no neighbour of its own: before it and after it would stand the same vertex
    other : v ∈ ring v → ⊥
    other m = next_next_ne (ring v) once v m (long v h) (ap (next (ring v)) (back v m).1 ∙ next_prev (ring v) once v m)

    ahead : (u : ℕ) → u ∈ ring v → Follows (ring (next (ring v) u)) v u
    ahead u m = subst (λ (x : ℕ). Follows (ring (next (ring v) u)) v x) (prev_of_next (ring v) once u m) (back (next (ring v) u) (next_in (ring v) u m))

  triangle : (v u : ℕ) → v < n → u ∈ ring v → let w = next (ring v) u in Follows (ring w) v u × Follows (ring u) w v
  triangle v u h m =
      let w : ℕ = next (ring v) u in
      let a : Follows (ring w) v u = ahead v h u m in
      (a, subst (λ (x : ℕ). Follows (ring x) w v) a.1 (ahead w (known v h w (next_in (ring v) u m)) v a.0))

  ring_is : (v : ℕ) → v < n → (mesh n ring).ring v ≡ ring v
  ring_is v h = rw (lt-ltb v n h)

  pub turning_sound : ((v : ℕ) → v < n → length (ring v) ≤ 32) → Sound (mesh n ring)
  turning_sound short = record {
    proper = λ v h. record {
      short = rw (ring_is v h) (short v h);
      known = λ u m. known v h u (rw (ring_is v h) at m);
      other = λ m. other v h (rw (ring_is v h) at m);
      distinct = rw (ring_is v h) (once v h);
    };
    three = λ v h. rw (ring_is v h) (long v h);
    mutual' = λ v u h m. let k : u ∈ ring v = rw (ring_is v h) at m in rw (ring_is u (known v h u k)) (back v h u k).0;
    face = λ v u h m.
        let k : u ∈ ring v = rw (ring_is v h) at m in
        rw (ring_is v h, ring_is u (known v h u k), ring_is (next (ring v) u) (known v h (next (ring v) u) (next_in (ring v) u k))) (triangle v u h k);
  }

-- ---- the tables

module _ {n : ℕ} {t : Lent} (room : Room n t) (f : FitValences n t.valences) where
  pub fit_rows : (v : ℕ) → v < n → HasRow t v
  fit_rows v l = room_row room l (f.most v l)

  pub turning_fit : ((v : ℕ) → v < n → Turns n (ring_of t) v (valence_at t v)) → Fit n t × Sound (rows n t)
  unfolding rows
  turning_fit table = (record { room = room; fit = λ v l. sound_row n t v (f.least v l) (f.most v l) (sound_proper (rows n t) s v l) }, s)
    where
      size : (v : ℕ) → v < n → length (ring_of t v) ≡ valence_at t v
      size v l = row_length t v (fit_rows v l)

      s : Sound (mesh n (ring_of t))
      s = turning_sound n (ring_of t) (λ v l. rw (size v l) (f.least v l)) (λ v l. rw (size v l) (table v l)) (λ v l. rw (size v l) (f.most v l))
