-- What a quick pass tells, loop by loop: where misses are counted and there are none, all have what is asked for. Assumes nothing.
use Prim.Native.Nat.{ℕ, zero, suc, ◌+◌, ◌-◌, ◌≤◌, ◌<◌}
use mathlib.Core.Path.{◌≡◌, refl, ap, ◌∙◌}
use mathlib.Core.List.{List}
use mathlib.Core.Logic.{⊎_elim}
use native.Mathlib.Omega.{arith}
use lib.ListN.{length, get_or}
use borrow.Author.Count.{below_more}
use Rattle.mesh.specs.Ring.{place_after, place_before}
use Rattle.mesh.proofs.Lists.{lt_split}
use Rattle.mesh.proofs.Places.{after_last, after_other, before_other}
use Rattle.stack_agreement.specs.Agreement.{EdgeVertex, RowAgrees, edge_key, Ascends}

-- of the numbers below k, `misses` lack something: where that is 0, all of them have it
pub record Missed (P : ℕ → Type 0) (misses k : ℕ) : Type 0 where
  pub few : misses ≤ k
  pub all : misses ≡ 0 → (j : ℕ) → j < k → P j

-- ---- the edges that rings name ascend so far, and stay below `least`

pub record Climbing (rings : List ℕ) (least k : ℕ) : Type 0 where
  pub ascends : Ascends rings k
  pub less : (x : ℕ) → x < k → edge_key rings x < least

climbing_more : {rings : List ℕ} {least k : ℕ} → Climbing rings least k → least ≤ edge_key rings k → Climbing rings (edge_key rings k + 1) (k + 1)
climbing_more {rings} {least} {k} t h = record {
  ascends =
      record
      { later = λ x y l g. ⊎_elim (λ s. t.ascends.later x y l s.1) (λ s. let m = s.1 in let e : y ≡ k = omega arith in rw e (let w = t.less x (omega arith) in omega arith)) (lt_split y k) };
  less = λ x l. ⊎_elim (λ s. let w = t.less x s.1 in omega arith) (λ s. let m = s.1 in let e : x ≡ k = omega arith in rw e (omega arith)) (lt_split x k);
}

-- the same where no fall was counted
pub record Rising (rings : List ℕ) (falls least k : ℕ) : Type 0 where
  pub few : falls ≤ k
  pub climbing : falls ≡ 0 → Climbing rings least k

module _ {rings : List ℕ} {falls least k : ℕ} (t : Rising rings falls least k) {more : ℕ} where
  pub rising_fall : more ≡ falls + 1 → Rising rings more (edge_key rings k + 1) (k + 1)
  rising_fall e = record { few = let f = t.few in omega arith; climbing = λ z. absurd (omega arith) }

  pub rising_more : more ≡ falls → least ≤ edge_key rings k → Rising rings more (edge_key rings k + 1) (k + 1)
  rising_more e h = record { few = let f = t.few in omega arith; climbing = λ z. climbing_more (t.climbing (omega arith)) h }

-- ---- a row is walked up to place i, whose new vertex is x, with `before` before it

pub record Walked (row next above : List ℕ) (n end p before x i : ℕ) : Type 0 where
  pub here : x ≡ get_or next i 0
  pub behind : before ≡ get_or next (place_before (length row) i) 0
  pub place : (j : ℕ) → j < i → EdgeVertex above n end p (get_or row j 0) (get_or next j 0) (get_or next (place_before (length row) j) 0) (get_or next (place_after (length row) j) 0)

module _ {row next above : List ℕ} {n end p : ℕ} where
  pub walked_none : Walked row next above n end p (get_or next (length row - 1) 0) (get_or next 0 0) 0
  unfolding place_before
  walked_none = record { here = refl; behind = refl; place = λ j l. absurd (omega arith) }

  module _ {before x i : ℕ} (t : Walked row next above n end p before x i) where
    walked_place : (after k : ℕ) → k ≡ place_after (length row) i → after ≡ get_or next k 0 → EdgeVertex above n end p (get_or row i 0) x before after → (j : ℕ) → j < i + 1
        → EdgeVertex above n end p (get_or row j 0) (get_or next j 0) (get_or next (place_before (length row) j) 0) (get_or next (place_after (length row) j) 0)
    walked_place after k e a h =
        below_more
        (λ (j : ℕ). EdgeVertex above n end p (get_or row j 0) (get_or next j 0) (get_or next (place_before (length row) j) 0) (get_or next (place_after (length row) j) 0)) i
        t.place
        (rw (← t.here, ← t.behind, ← e, ← a) h)

    pub walked_more : i < length row - 1 → EdgeVertex above n end p (get_or row i 0) x before (get_or next (i + 1) 0) → Walked row next above n end p x (get_or next (i + 1) 0) (i + 1)
    walked_more l h = record {
      here = refl;
      behind = t.here ∙ ap (λ (k : ℕ). get_or next k 0) (let z : i ≡ i + 1 - 1 = omega arith in z ∙ before_other (length row) (i + 1) (λ z. omega arith));
      place = walked_place (get_or next (i + 1) 0) (i + 1) (after_other (length row) i (λ z. omega arith)) refl h;
    }

    pub walked_all : 0 < length row → i ≡ length row - 1 → EdgeVertex above n end p (get_or row (length row - 1) 0) x before (get_or next 0 0) → RowAgrees row next above n end p
    walked_all l e h = record { place = λ j m. walked_place (get_or next 0 0) 0 (after_last (length row) i (omega arith)) refl (rw (← e) at h) j (omega arith) }

-- a row of six
pub six_agree : {row next above : List ℕ} {n end p : ℕ} → length row ≡ 6
    → EdgeVertex above n end p (get_or row 0 0) (get_or next 0 0) (get_or next 5 0) (get_or next 1 0)
    → EdgeVertex above n end p (get_or row 1 0) (get_or next 1 0) (get_or next 0 0) (get_or next 2 0)
    → EdgeVertex above n end p (get_or row 2 0) (get_or next 2 0) (get_or next 1 0) (get_or next 3 0)
    → EdgeVertex above n end p (get_or row 3 0) (get_or next 3 0) (get_or next 2 0) (get_or next 4 0)
    → EdgeVertex above n end p (get_or row 4 0) (get_or next 4 0) (get_or next 3 0) (get_or next 5 0)
    → EdgeVertex above n end p (get_or row 5 0) (get_or next 5 0) (get_or next 4 0) (get_or next 0 0) → RowAgrees row next above n end p
unfolding place_before place_after
six_agree {row} {next} {above} {n} {end} {p} e a b c d f g = record { place = λ i l. rw e (go i (rw e at l)) }
  where
    go : (i : ℕ) → i < 6 → EdgeVertex above n end p (get_or row i 0) (get_or next i 0) (get_or next (place_before 6 i) 0) (get_or next (place_after 6 i) 0)
    go zero l = a
    go (suc zero) l = b
    go (suc (suc zero)) l = c
    go (suc (suc (suc zero))) l = d
    go (suc (suc (suc (suc zero)))) l = f
    go (suc (suc (suc (suc (suc zero))))) l = g
    go (suc (suc (suc (suc (suc (suc i)))))) l = absurd (omega arith)
