-- A list with one place opened or closed, place by place: its length, its entries, how often each stands there. Assumes nothing.
use mathlib.Core.Path.{◌≡◌, refl, sym, ap, ◌∙◌}
use mathlib.Core.List.{List, [], ◌∷◌}
use Prim.Native.Nat.{ℕ, zero, suc, ◌+◌, ◌≤◌, ◌<◌}
use native.Mathlib.Nat.{not-suc-le-zero}
use native.Mathlib.Omega.{arith}
use lib.Dec.{eqb}
use lib.ListN.{length, get_or, set}
use Rattle.mesh.specs.Search.{bit}
use Rattle.mesh.specs.Ring.{times}
use Rattle.mesh.specs.Edits.{closed, opened}

-- ---- opened: entries before the place stay, x comes, later ones shift by one

pub opened_length : (l : List ℕ) (i x : ℕ) → length (opened l i x) ≡ suc (length l)
unfolding opened
opened_length [] zero x = refl
opened_length [] (suc i) x = refl
opened_length (a ∷ l) zero x = refl
opened_length (a ∷ l) (suc i) x = ap suc (opened_length l i x)

pub opened_before : (l : List ℕ) (i x j d : ℕ) → j < i → i ≤ length l → get_or (opened l i x) j d ≡ get_or l j d
unfolding opened
opened_before l zero x j d h k = absurd (not-suc-le-zero h)
opened_before [] (suc i) x j d h k = absurd (not-suc-le-zero k)
opened_before (a ∷ l) (suc i) x zero d h k = refl
opened_before (a ∷ l) (suc i) x (suc j) d h k = opened_before l i x j d (omega arith) (omega arith)

pub opened_at : (l : List ℕ) (i x d : ℕ) → i ≤ length l → get_or (opened l i x) i d ≡ x
unfolding opened
opened_at [] zero x d k = refl
opened_at [] (suc i) x d k = absurd (not-suc-le-zero k)
opened_at (a ∷ l) zero x d k = refl
opened_at (a ∷ l) (suc i) x d k = opened_at l i x d (omega arith)

pub opened_after : (l : List ℕ) (i x j d : ℕ) → i ≤ j → i ≤ length l → get_or (opened l i x) (suc j) d ≡ get_or l j d
unfolding opened
opened_after [] zero x j d h k = refl
opened_after [] (suc i) x j d h k = absurd (not-suc-le-zero k)
opened_after (a ∷ l) zero x j d h k = refl
opened_after (a ∷ l) (suc i) x zero d h k = absurd (not-suc-le-zero h)
opened_after (a ∷ l) (suc i) x (suc j) d h k = opened_after l i x j d (omega arith) (omega arith)

pub opened_times : (y : ℕ) (l : List ℕ) (i x : ℕ) → times y (opened l i x) ≡ bit (eqb y x) + times y l
unfolding opened
opened_times y [] zero x = refl
opened_times y [] (suc i) x = refl
opened_times y (a ∷ l) zero x = refl
opened_times y (a ∷ l) (suc i) x = omega (arith, opened_times y l i x)

-- ---- closed: opening and closing a place undo one another

pub opened_closed : (l : List ℕ) (i : ℕ) → i < length l → opened (closed l i) i (get_or l i 0) ≡ l
unfolding opened closed
opened_closed [] i h = absurd (not-suc-le-zero h)
opened_closed (a ∷ l) zero h = refl
opened_closed (a ∷ l) (suc i) h = ap (λ t. a ∷ t) (opened_closed l i (omega arith))

pub closed_opened : (l : List ℕ) (i x : ℕ) → i ≤ length l → closed (opened l i x) i ≡ l
unfolding opened closed
closed_opened [] zero x h = refl
closed_opened [] (suc i) x h = absurd (not-suc-le-zero h)
closed_opened (a ∷ l) zero x h = refl
closed_opened (a ∷ l) (suc i) x h = ap (λ t. a ∷ t) (closed_opened l i x (omega arith))

pub closed_length : (l : List ℕ) (i : ℕ) → i < length l → suc (length (closed l i)) ≡ length l
closed_length l i h = sym (opened_length (closed l i) i (get_or l i 0)) ∙ ap length (opened_closed l i h)

pub closed_before : (l : List ℕ) (i j : ℕ) → i < length l → j < i → get_or (closed l i) j 0 ≡ get_or l j 0
closed_before l i j h k =
    let c = closed_length l i h in
    sym (opened_before (closed l i) i (get_or l i 0) j 0 k (omega arith)) ∙ ap (λ t. get_or t j 0) (opened_closed l i h)

pub closed_times : (y : ℕ) (l : List ℕ) (i : ℕ) → i < length l → bit (eqb y (get_or l i 0)) + times y (closed l i) ≡ times y l
closed_times y l i h = sym (opened_times y (closed l i) i (get_or l i 0)) ∙ ap (times y) (opened_closed l i h)

-- ---- set

pub set_times : (y : ℕ) (l : List ℕ) (i x : ℕ) → i < length l → bit (eqb y (get_or l i 0)) + times y (set l i x) ≡ bit (eqb y x) + times y l
set_times y [] i x h = absurd (not-suc-le-zero h)
set_times y (a ∷ l) zero x h = omega arith
set_times y (a ∷ l) (suc i) x h = omega (arith, set_times y l i x (omega arith))
