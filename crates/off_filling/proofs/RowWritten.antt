-- A ring, written while it is walked round. Assumes nothing.
use mathlib.Core.Path.{◌≡◌, refl, sym, ap, subst, ◌∙◌}
use mathlib.Core.Bool.{Bool, true, false, cond}
use mathlib.Core.List.{List, [], ◌∷◌, ◌++◌}
use Prim.Native.Nat.{ℕ, zero, suc, ◌+◌, ◌-◌, ◌≤◌, ◌<◌}
use native.Mathlib.Numerals.{add-one}
use native.Mathlib.Omega.{arith}
use lib.ListN.{length, get_or, set, replicate}
use Rattle.mesh.specs.Limits.{place_bound, null_vertex}
use Rattle.mesh.specs.Ring.{has, place}
use Rattle.mesh.proofs.First.{first_le}
use Rattle.rings.specs.Table.{put, padded}
use Rattle.rings.proofs.Blocks.{row_padded}
use Rattle.rings.proofs.Tables.{length_padded}
use Rattle.file_format.specs.Blocks.{Put}
use Rattle.file_format.proofs.Blocks.{put_none, put_one, put_length, then, put_is}
use Rattle.off_rings.specs.Faces.{steps, trail}
use Rattle.off_rings.specs.Fans.{follower, smallest, fan_ring}
use Rattle.off_rings.proofs.Trails.{steps_suc, steps_none, trail_length}

-- one number more of a trail
trail_suc : (f : ℕ → ℕ) (x k : ℕ) → trail f x (suc k) ≡ trail f x k ++ (steps f x k ∷ [])
unfolding trail steps
trail_suc f x zero = refl
trail_suc f x (suc k) = ap (λ l. x ∷ l) (trail_suc f (f x) k)

trail_more : (f : ℕ → ℕ) (x k : ℕ) → trail f x (k + 1) ≡ trail f x k ++ (steps f x k ∷ [])
trail_more f x k = rw (add-one k) (trail_suc f x k)

module _ (n : ℕ) (from to : List ℕ) where
  -- the ring is as long as the lists
  fan_length : length (fan_ring n from to) ≡ length from
  unfolding fan_ring
  fan_length = trail_length (follower n from to) (smallest n from to) (length from)

  -- k numbers of the walk were written, and x comes next
  pub record Walked (old : List ℕ) (at : ℕ) (new : List ℕ) (x k : ℕ) : Type 0 where
    pub here : x ≡ steps (follower n from to) (smallest n from to) k
    pub small : x < place_bound
    pub same : length new ≡ length old
    pub written : Put old at (trail (follower n from to) (smallest n from to) k) new

  pub walked_none : {old : List ℕ} {at x : ℕ} → n ≤ 1024 → at ≤ length old → x ≡ smallest n from to → Walked old at old x 0
  unfolding smallest trail
  walked_none h l e = record {
    here = e ∙ sym (steps_none (follower n from to) (smallest n from to));
    small = omega (arith, first_le (λ x. has x from) n);
    same = refl;
    written = put_none l;
  }

  follower_small : n ≤ 1024 → ((i : ℕ) → get_or to i 0 < place_bound) → (x : ℕ) → follower n from to x < place_bound
  unfolding follower
  follower_small h g x = go (has x from)
    where
      go : (t : Bool) → cond t (get_or to (place x from) 0) n < place_bound
      go true = g (place x from)
      go false = omega arith

  pub walked_more : {old new : List ℕ} {at x y k : ℕ} → n ≤ 1024 → ((i : ℕ) → get_or to i 0 < place_bound) → at + k < length old
      → Walked old at new x k → y ≡ follower n from to x → Walked old at (set new (at + k) x) y (k + 1)
  walked_more {old} {new} {at} {x} {y} {k} h g l w e =
      let f : ℕ → ℕ = follower n from to in
      let start : ℕ = smallest n from to in
      let one : Put new (at + k) (x ∷ []) (set new (at + k) x) = put_one (omega (arith, w.same)) in
      record {
        here = rw (add-one k) (e ∙ ap f w.here ∙ sym (steps_suc f start k));
        small = omega (arith, follower_small h g x);
        same = put_length one ∙ w.same;
        written = put_is (sym (trail_more f start k)) (then w.written (put_is (ap (λ z. z ∷ []) w.here) one) (omega (arith, trail_length f start k)));
      }

  pub walked_all : {old new end : List ℕ} {at x k : ℕ} → length from ≤ 32 → at + 32 ≤ length old → k ≡ length from → Walked old at new x k
      → end ≡ put new (at + length from) (replicate (32 - length from) null_vertex) → Put old at (padded (fan_ring n from to)) end
  unfolding fan_ring
  walked_all {old} {new} {end} {at} {x} {k} few room q w e =
      let ring : List ℕ = fan_ring n from to in
      let long : length ring ≡ length from = fan_length in
      let all : Put old at ring new = subst (λ j. Put old at (trail (follower n from to) (smallest n from to) j) new) q w.written in
      record {
        fits = omega (arith, length_padded ring (omega arith));
        is = e
            ∙ ap (λ j. put new (at + j) (replicate (32 - j) null_vertex)) (sym long)
            ∙ ap (λ l. put l (at + length ring) (replicate (32 - length ring) null_vertex)) all.is
            ∙ row_padded old at ring room (omega arith);
      }
