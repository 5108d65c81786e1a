-- Three ways in which a ring may come from another: a number put in, one taken out, one for another. Each says what follows and what precedes every entry.
-- Assumes nothing.
use mathlib.Core.Path.{◌≡◌, refl, sym, ap, ◌∙◌, subst}
use mathlib.Core.Bool.{cond}
use mathlib.Core.List.{List, [], ◌∷◌, map}
use mathlib.Core.Logic.{⊎_elim, ◌≢◌}
use Prim.Native.Nat.{ℕ, ◌≤◌, ◌<◌}
use native.Mathlib.Nat.{not-suc-le-zero}
use native.Mathlib.Omega.{arith}
use lib.Dec.{eqb}
use lib.ListN.{length, set}
use borrow.Author.Tests.{eq-eqb, ne_eqb}
use Rattle.mesh.specs.Search.{bit}
use Rattle.mesh.specs.Ring.{◌∈◌, Distinct, place, next, prev}
use Rattle.mesh.specs.Edits.{opened}
use Rattle.mesh.proofs.Lists.{eq_split, here, there, distinct_tail, not_again}
use Rattle.mesh.proofs.Rings.{in_cons, prev_in, next_map, map_in, distinct_map}
use Rattle.mesh.proofs.RingsGoRound.{next_of_prev, prev_of_next, prev_is_what_it_follows}
use Rattle.mesh.proofs.EditPlaces.{opened_times}
use Rattle.mesh.proofs.OpenedRings.{entry_before, entry_in, opened_distinct, opened_next_before, opened_next_new, opened_next_other}

-- in `new` x stands after c, before what followed c in `old`, and all else is as in `old`
pub record PutAfter (old new : List ℕ) (c x : ℕ) : Type 0 where
  pub next_of_c : next new c ≡ x
  pub next_of_x : next new x ≡ next old c
  pub next_of_others : (y : ℕ) → y ∈ old → y ≢ c → next new y ≡ next old y
  pub prev_of_x : prev new x ≡ c
  pub prev_of_follower : prev new (next old c) ≡ x
  pub prev_of_others : (y : ℕ) → y ∈ old → y ≢ next old c → prev new y ≡ prev old y

-- in `new` the neighbours that x had in `old` are next to one another, and all else is as in `old`
pub record TakenOut (old new : List ℕ) (x : ℕ) : Type 0 where
  pub next_of_preceder : next new (prev old x) ≡ next old x
  pub next_of_others : (y : ℕ) → y ∈ old → y ≢ x → y ≢ prev old x → next new y ≡ next old y
  pub prev_of_follower : prev new (next old x) ≡ prev old x
  pub prev_of_others : (y : ℕ) → y ∈ old → y ≢ x → y ≢ next old x → prev new y ≡ prev old y

-- x for a, and all else itself
abbrev pub renamed : ℕ → ℕ → ℕ → ℕ
renamed a x y = cond (eqb y a) x y

-- in `new` all is as in `old`, with x for a
pub record Renamed (old new : List ℕ) (a x : ℕ) : Type 0 where
  pub next_of : (y : ℕ) → y ∈ old → next new (renamed a x y) ≡ renamed a x (next old y)
  pub prev_of : (y : ℕ) → y ∈ old → prev new (renamed a x y) ≡ renamed a x (prev old y)

-- ---- put in: what precedes follows from what follows

module _ (old new : List ℕ) (o : Distinct old) (p : Distinct new) (c x : ℕ) (m : c ∈ old) (k : x ∈ new) (keeps : (y : ℕ) → y ∈ old → y ∈ new) where
  put_after : next new c ≡ x → next new x ≡ next old c → ((y : ℕ) → y ∈ old → y ≢ c → next new y ≡ next old y) → PutAfter old new c x
  put_after a b others = record {
    next_of_c = a;
    next_of_x = b;
    next_of_others = others;
    prev_of_x = prev_is_what_it_follows new p c x (keeps c m) a;
    prev_of_follower = prev_is_what_it_follows new p x (next old c) k b;
    prev_of_others = λ y n d.
        let w = prev_in old y n in
        prev_is_what_it_follows new p (prev old y) y (keeps (prev old y) w)
        (others (prev old y) w (λ e. d (sym (next_of_prev old o y n) ∙ ap (next old) e)) ∙ next_of_prev old o y n);
  }

pub opened_put : (l : List ℕ) (o : Distinct l) (x : ℕ) (n : x ∈ l → ⊥) (i : ℕ) → i ≤ length l → 0 < length l → PutAfter l (opened l i x) (entry_before l i) x
opened_put l o x n i h some =
    put_after l (opened l i x) o (opened_distinct l o x n i) (entry_before l i) x (entry_in l i h some)
    (omega (arith, opened_times x l i x, ap bit (eq-eqb x x refl)))
    (λ y m. omega (arith, opened_times y l i x))
    (opened_next_before l o x n i h some)
    (opened_next_new l o x n i h some)
    (opened_next_other l o x n i h some)

-- ---- taken out: the same read backwards

pub taken_out : (old new : List ℕ) (c x : ℕ) → Distinct new → c ∈ new → ((y : ℕ) → y ∈ old → y ≢ x → y ∈ new) → PutAfter new old c x → TakenOut old new x
taken_out old new c x o m fewer q = record {
  next_of_preceder = ap (next new) q.prev_of_x ∙ sym q.next_of_x;
  next_of_others = λ y k d e. sym (q.next_of_others y (fewer y k d) (λ g. e (g ∙ sym q.prev_of_x)));
  prev_of_follower = ap (prev new) q.next_of_x ∙ prev_of_next new o c m ∙ sym q.prev_of_x;
  prev_of_others = λ y k d e. sym (q.prev_of_others y (fewer y k d) (λ g. e (g ∙ sym q.next_of_x)));
}

-- ---- one for another: the ring under a map that is one to one on it

module _ (a x : ℕ) where
  renamed_one : (l : List ℕ) → (x ∈ l → ⊥) → (y z : ℕ) → y ∈ l → z ∈ l → renamed a x y ≡ renamed a x z → y ≡ z
  renamed_one l n y z m k =
      ⊎_elim
      (λ e. ⊎_elim (λ g. λ q. e.1 ∙ sym g.1) (λ g. rw (e.0, g.0) (λ q. absurd (n (subst (λ t. t ∈ l) (sym q) k)))) (eq_split z a))
      (λ e. ⊎_elim (λ g. rw (e.0, g.0) (λ q. absurd (n (subst (λ t. t ∈ l) q m)))) (λ g. rw (e.0, g.0) (λ q. q)) (eq_split z a))
      (eq_split y a)

  renamed_none : (l : List ℕ) → (a ∈ l → ⊥) → map (renamed a x) l ≡ l
  renamed_none [] n = refl
  renamed_none (b ∷ l) n =
      rw (ne_eqb b a (λ e. n (subst (λ t. t ∈ b ∷ l) e (here b l)))) (ap (λ t. b ∷ t) (renamed_none l (λ m. n (there a b l m))))

  set_renamed : (l : List ℕ) → Distinct l → a ∈ l → set l (place a l) x ≡ map (renamed a x) l
  set_renamed [] o m = absurd (not-suc-le-zero m)
  set_renamed (b ∷ l) o m =
      ⊎_elim
      (λ e. rw (e.0, eq-eqb b a (sym e.1)) (ap (λ t. x ∷ t) (sym (renamed_none l (λ k. not_again b l o (subst (λ t. t ∈ l) e.1 k))))))
      (λ e. rw (e.0, ne_eqb b a (λ q. e.1 (sym q))) (ap (λ t. b ∷ t) (set_renamed l (distinct_tail b l o) (in_cons a b l m e.1))))
      (eq_split a b)

  pub set_renames : (l : List ℕ) → Distinct l → a ∈ l → (x ∈ l → ⊥) → Renamed l (set l (place a l) x) a x
  set_renames l o m n =
      let new : List ℕ = map (renamed a x) l in
      let one : (y z : ℕ) → y ∈ l → z ∈ l → renamed a x y ≡ renamed a x z → y ≡ z = renamed_one l n in
      let p : Distinct new = distinct_map (renamed a x) l one o in
      let f : (y : ℕ) → y ∈ l → next new (renamed a x y) ≡ renamed a x (next l y) = λ y k. next_map (renamed a x) y l one k in
      subst (λ t. Renamed l t a x) (sym (set_renamed l o m)) (record {
        next_of = f;
        prev_of = λ y k.
            let w = prev_in l y k in
            prev_is_what_it_follows new p (renamed a x (prev l y)) (renamed a x y) (map_in (renamed a x) (prev l y) l w) (f (prev l y) w ∙ ap (renamed a x) (next_of_prev l o y k));
      })
