-- Rows of new vertices written half by half: one step more, and all steps. Assumes nothing.
use Prim.Native.Nat.{ℕ, ◌+◌, ◌-◌, ◌*◌, ◌/◌, ◌%◌, ◌<◌}
use mathlib.Core.Path.{◌≡◌, sym, ap, subst, ◌∙◌}
use mathlib.Core.List.{List}
use mathlib.Core.Logic.{◌⊎◌, inl, inr, ⊎_elim}
use native.Mathlib.Nat.{div-add-mod', mod-lt}
use native.Mathlib.Omega.{arith}
use lib.Dec.{lit<}
use lib.ListN.{get_or}
use Rattle.mesh.specs.Mesh.{Mesh, Sound, edges}
use Rattle.mesh.specs.Ring.{◌∈◌, place}
use Rattle.mesh.proofs.Lists.{lt_split}
use Rattle.mesh.proofs.Rings.{get_or_place, place_lt}
use Rattle.loop_step.specs.Refine.{mid, low_end, high_end}
use Rattle.loop_step.proofs.Mids as E
use Rattle.rings.specs.Table.{Lent, lent, ring_of, rows}
use Rattle.rings.proofs.Rows.{rows_ring}
use Rattle.loop_points.specs.Level.{Ready, rings_up_to}
use Rattle.loop_points.proofs.Mids.{ready_length}
use Rattle.loop_halves.specs.Nearer.{Nearer, Halves, PlacesOfBelow, rings_next, number_at}
use Rattle.loop_halves.proofs.Nearing.{nearer_then, reached}
use Rattle.loop_halves.proofs.Targets.{target_length, target_before, target_behind, held_row, kept_ring, kept_number, kept_target}

module _ {n : ℕ} {t : Lent} (r : Ready n t) where
  abbrev M : Mesh
  M = rows n t

  abbrev S : Sound (rows n t)
  S = r.sound

  pub halves_join : {now new : List ℕ} {P Q R : ℕ → ℕ → Type 0} → Halves n t now P → Halves n (lent t.valences now) new Q → ((u i : ℕ) → R u i → (u < n) × (P u i ⊎ Q u i)) → Halves n t new R
  halves_join {now} {new} h g d =
      let told : rings_next n (lent t.valences now) ≡ rings_next n t = kept_target r h.nearer in
      let f : Nearer 0 (rings_next n t) now new = subst (λ (x : List ℕ). Nearer 0 x now new) told g.nearer in
      let moved : (u i k : ℕ) → u < n → get_or new ((n + number_at n (lent t.valences now) u i) * 32 + k) 0 ≡ get_or (rings_next n (lent t.valences now)) ((n + number_at n (lent t.valences now) u i) * 32 + k) 0
      → get_or new ((n + number_at n t u i) * 32 + k) 0 ≡ get_or (rings_next n t) ((n + number_at n t u i) * 32 + k) 0 =
      λ u i k l z.
      subst (λ (x : List ℕ). get_or new ((n + number_at n t u i) * 32 + k) 0 ≡ get_or x ((n + number_at n t u i) * 32 + k) 0) told
      (subst (λ (x : ℕ). get_or new ((n + x) * 32 + k) 0 ≡ get_or (rings_next n (lent t.valences now)) ((n + x) * 32 + k) 0) (kept_number r h.nearer u i l) z) in
      record {
        nearer = nearer_then 0 (rings_next n t) h.nearer f;
        low = λ u i e l k b s.
            ⊎_elim
            (λ p. f.keeps ((n + number_at n t u i) * 32 + k) (h.low u i p l k b s))
            (λ q. moved u i k (d u i e).0 (g.low u i q (rw (kept_ring r h.nearer u (d u i e).0) l) k b s))
            (d u i e).1;
        high = λ u i e l k b s.
            ⊎_elim
            (λ p. f.keeps ((n + number_at n t u i) * 32 + k) (h.high u i p l k b s))
            (λ q. moved u i k (d u i e).0 (g.high u i q (rw (kept_ring r h.nearer u (d u i e).0) l) k b s))
            (d u i e).1;
      }

  pub rings_reached : t.rings ≡ rings_up_to n n t → {new : List ℕ} → Halves n t new (PlacesOfBelow t.valences n) → new ≡ rings_next n t
  unfolding rows
  rings_reached e {new} h =
      reached 0 (rings_next n t) new (h.nearer.long ∙ sym (target_length r)) (λ a _.
      ⊎_elim
      (λ q. h.nearer.keeps a (sym (target_before r a q.1)))
      (λ q.
      ⊎_elim
      (λ b.
      let y : ℕ = a / 32 - n in
      let k : ℕ = a % 32 in
      let w : a / 32 * 32 + a % 32 ≡ a = div-add-mod' a 32 in
      let l : a % 32 < 32 = mod-lt a (lit< tt) in
      let z : (n + y) * 32 + k ≡ a = omega arith in
      subst (λ (x : ℕ). get_or new x 0 ≡ get_or (rings_next n t) x 0) z (whole y k (omega arith) l))
      (λ b. h.nearer.keeps a (sym (target_behind r a b.1)))
      (lt_split a ((n + (n + edges M)) * 32)))
      (lt_split a (n * 32)))
    where
      whole : (y k : ℕ) → y < n + edges M → k < 32 → get_or new ((n + y) * 32 + k) 0 ≡ get_or (rings_next n t) ((n + y) * 32 + k) 0
      whole y k b l =
          ⊎_elim
          (λ o. h.nearer.keeps ((n + y) * 32 + k) (held_row r e y k o.1 l))
          (λ o.
          let x = E.ends M S.proper S.mutual' y o.1 b in
          let p : ℕ = low_end M y in
          let q : ℕ = high_end M y in
          let g : p < n = omega arith in
          let g' : q < n = x.1 in
          let u : M.ring p ≡ ring_of t p = rows_ring n t p g in
          let u' : M.ring q ≡ ring_of t q = rows_ring n t q g' in
          let m : q ∈ ring_of t p = subst (λ (told : List ℕ). q ∈ told) u x.2 in
          let m' : p ∈ ring_of t q = subst (λ (told : List ℕ). p ∈ told) u' (S.mutual' p q g x.2) in
          let i : ℕ = place q (ring_of t p) in
          let j : ℕ = place p (ring_of t q) in
          let v : get_or (ring_of t p) i 0 ≡ q = get_or_place q (ring_of t p) 0 m in
          let v' : get_or (ring_of t q) j 0 ≡ p = get_or_place p (ring_of t q) 0 m' in
          let c = ready_length r g in
          let c' = ready_length r g' in
          let d = place_lt q (ring_of t p) m in
          let d' = place_lt p (ring_of t q) m' in
          let s : number_at n t p i ≡ y = ap (mid M p) v ∙ x.3 in
          let s' : number_at n t q j ≡ y = ap (mid M q) v' ∙ E.mid_sym M S.proper S.mutual' q p ∙ x.3 in
          let by : (told : ℕ) → told ≡ y → get_or new ((n + told) * 32 + k) 0 ≡ get_or (rings_next n t) ((n + told) * 32 + k) 0 → get_or new ((n + y) * 32 + k) 0 ≡ get_or (rings_next n t) ((n + y) * 32 + k) 0 =
          λ told f z. subst (λ (told : ℕ). get_or new ((n + told) * 32 + k) 0 ≡ get_or (rings_next n t) ((n + told) * 32 + k) 0) f z in
          let first : (k < 2) ⊎ (4 < k) → get_or new ((n + y) * 32 + k) 0 ≡ get_or (rings_next n t) ((n + y) * 32 + k) 0 =
          λ w. by (number_at n t p i) s (h.low p i (g, omega arith) (omega arith) k l w) in
          ⊎_elim
          (λ w. first (inl w.1))
          (λ w.
          ⊎_elim
          (λ w'. by (number_at n t q j) s' (h.high q j (g', omega arith) (omega arith) k (omega arith) w'.1))
          (λ w'. first (inr w'.1))
          (lt_split k 5))
          (lt_split k 2))
          (lt_split y n)
