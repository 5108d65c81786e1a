-- One face: its corners, ordered pairs, and what comes before and behind each. Assumes nothing.
use mathlib.Core.Path.{◌≡◌, refl, sym, ap, ◌∙◌}
use mathlib.Core.Bool.{Bool, true, false, cond, ◌&&◌}
use mathlib.Core.Logic.{◌⊎◌, inl, inr, ⊎_elim, ◌≢◌}
use Prim.Native.Nat.{ℕ, ◌<◌}
use lib.Dec.{eqb}
use borrow.Author.Tests.{eq-eqb, ne_eqb, eqb-true, eqb-false, leb-false}
use Rattle.mesh.specs.Search.{bit, sum}
use Rattle.mesh.proofs.Lists.{eq_split, sum_same, sum_zero, sum_pick}
use Rattle.mesh.proofs.First.{or_false, true_not_false}
use Rattle.off_rings.specs.Faces.{Face, bad_face, corner, before, behind, has_pair}
use Rattle.off_rings.proofs.Sums.{bit_cond}

-- three corners that differ, below n
pub record Fine (n : ℕ) (f : Face) : Type 0 where
  pub ab : f.a ≢ f.b
  pub bc : f.b ≢ f.c
  pub ca : f.c ≢ f.a
  pub a< : f.a < n
  pub b< : f.b < n
  pub c< : f.c < n

pub fine_of : (n : ℕ) (f : Face) → bad_face n f ≡ false → Fine n f
unfolding bad_face
fine_of n f e =
    let p = or_false _ _ e in
    let q = or_false _ _ p.0 in
    let r = or_false _ _ q.1 in
    let s = or_false _ _ p.1 in
    let t = or_false _ _ s.1 in
    record {
      ab = eqb-false _ _ q.0;
      bc = eqb-false _ _ r.0;
      ca = eqb-false _ _ r.1;
      a< = leb-false _ _ s.0;
      b< = leb-false _ _ t.0;
      c< = leb-false _ _ t.1;
    }

-- v is one of the three corners, with its neighbours in the face, or none of them
pub record Corner (v : ℕ) (f : Face) (x w : ℕ) : Type 0 where
  pub is : corner v f ≡ true
  pub from : before v f ≡ x
  pub to : behind v f ≡ w

module _ (f : Face) (ab : f.a ≢ f.b) (bc : f.b ≢ f.c) (ca : f.c ≢ f.a) where
  pub at_a : (v : ℕ) → v ≡ f.a → Corner v f f.c f.b
  unfolding corner before behind
  at_a v e = record { is = rw (eq-eqb v f.a e); from = rw (eq-eqb v f.a e); to = rw (eq-eqb v f.a e) }

  pub at_b : (v : ℕ) → v ≡ f.b → Corner v f f.a f.c
  unfolding corner before behind
  at_b v e =
      let d = ne_eqb v f.a (λ q. ab (sym q ∙ e)) in
      let g = eq-eqb v f.b e in
      record { is = rw (d, g); from = rw (d, g); to = rw (d, g) }

  pub at_c : (v : ℕ) → v ≡ f.c → Corner v f f.b f.a
  unfolding corner before behind
  at_c v e =
      let d = ne_eqb v f.a (λ q. ca (sym e ∙ q)) in
      let g = ne_eqb v f.b (λ q. bc (sym q ∙ e)) in
      let h = eq-eqb v f.c e in
      record { is = rw (d, g, h); from = rw (d, g); to = rw (d, g) }

  pub which : (v : ℕ) → (corner v f ≡ false) ⊎ ((v ≡ f.a) ⊎ ((v ≡ f.b) ⊎ (v ≡ f.c)))
  unfolding corner
  which v =
      ⊎_elim
      (λ p. inr (inl p.1))
      (λ p.
      ⊎_elim
      (λ q. inr (inr (inl q.1)))
      (λ q. ⊎_elim (λ r. inr (inr (inr r.1))) (λ r. inl (rw (p.0, q.0, r.0))) (eq_split v f.c))
      (eq_split v f.b))
      (eq_split v f.a)

pub pair_of : (x v : ℕ) (f : Face) {w : ℕ} → Corner v f x w → has_pair x v f ≡ true
unfolding has_pair
pair_of x v f k = rw (k.is, k.from) (eq-eqb x x refl)

-- a pair that is there: v is a corner, and x comes before it
pub of_pair : (x v : ℕ) (f : Face) → has_pair x v f ≡ true → (corner v f ≡ true) × (x ≡ before v f)
unfolding has_pair
of_pair x v f e = go (corner v f) refl (eqb x (before v f)) refl
  where
    go : (s : Bool) → corner v f ≡ s → (t : Bool) → eqb x (before v f) ≡ t → (corner v f ≡ true) × (x ≡ before v f)
    go true p true q = (p, eqb-true x (before v f) q)
    go true p false q = absurd (true_not_false e (rw (p, q)))
    go false p t q = absurd (true_not_false e (rw p))

-- ---- the three pairs of a face: each tells the others

pub record Round (x v w : ℕ) (f : Face) : Type 0 where
  pub at_v : Corner v f x w
  pub at_w : Corner w f v x
  pub at_x : Corner x f w v

turn : (x v w : ℕ) (f : Face) → Round x v w f → Round v w x f
turn x v w f r = record { at_v = r.at_w; at_w = r.at_x; at_x = r.at_v }

pub round_of : (n v : ℕ) (f : Face) → Fine n f → corner v f ≡ true → Round (before v f) v (behind v f) f
round_of n v f k e = ⊎_elim (λ p. absurd (true_not_false e p)) (⊎_elim as_a (⊎_elim as_b as_c)) (which f k.ab k.bc k.ca v)
  where
    A : (u : ℕ) → u ≡ f.a → Corner u f f.c f.b
    A = at_a f k.ab k.bc k.ca

    B : (u : ℕ) → u ≡ f.b → Corner u f f.a f.c
    B = at_b f k.ab k.bc k.ca

    C : (u : ℕ) → u ≡ f.c → Corner u f f.b f.a
    C = at_c f k.ab k.bc k.ca

    same : (x w : ℕ) → Corner v f x w → Corner w f v x → Corner x f w v → Round (before v f) v (behind v f) f
    same x w p q r = rw (p.from, p.to) (record { at_v = p; at_w = q; at_x = r })

    as_a : v ≡ f.a → Round (before v f) v (behind v f) f
    as_a q = same f.c f.b (A v q) (rw q (B f.b refl)) (rw q (C f.c refl))

    as_b : v ≡ f.b → Round (before v f) v (behind v f) f
    as_b q = same f.a f.c (B v q) (rw q (C f.c refl)) (rw q (A f.a refl))

    as_c : v ≡ f.c → Round (before v f) v (behind v f) f
    as_c q = same f.b f.a (C v q) (rw q (A f.a refl)) (rw q (B f.b refl))

-- ---- how often v is a corner

pub before_lt : (n v : ℕ) (f : Face) → Fine n f → corner v f ≡ true → before v f < n
before_lt n v f k e =
    ⊎_elim
    (λ p. absurd (true_not_false e p))
    (⊎_elim
    (λ q. rw (at_a f k.ab k.bc k.ca v q).from k.c<)
    (⊎_elim (λ q. rw (at_b f k.ab k.bc k.ca v q).from k.a<) (λ q. rw (at_c f k.ab k.bc k.ca v q).from k.b<)))
    (which f k.ab k.bc k.ca v)

pub behind_lt : (n v : ℕ) (f : Face) → Fine n f → corner v f ≡ true → behind v f < n
behind_lt n v f k e =
    let r = turn _ _ _ f (turn _ _ _ f (round_of n v f k e)) in
    rw (← r.at_v.from) (before_lt n (before v f) f k r.at_v.is)

pub before_ne : (n v : ℕ) (f : Face) → Fine n f → corner v f ≡ true → before v f ≢ v
before_ne n v f k e =
    ⊎_elim
    (λ p. absurd (true_not_false e p))
    (⊎_elim
    (λ q. rw (at_a f k.ab k.bc k.ca v q).from (λ g. k.ca (g ∙ q)))
    (⊎_elim
    (λ q. rw (at_b f k.ab k.bc k.ca v q).from (λ g. k.ab (g ∙ q)))
    (λ q. rw (at_c f k.ab k.bc k.ca v q).from (λ g. k.bc (g ∙ q)))))
    (which f k.ab k.bc k.ca v)

-- the pairs that end in v are as many as the faces with v
pub pairs_to : (n v : ℕ) (f : Face) → Fine n f → sum (λ x. bit (has_pair x v f)) n ≡ bit (corner v f)
unfolding has_pair
pairs_to n v f k = go (corner v f) refl
  where
    go : (t : Bool) → corner v f ≡ t → sum (λ x. bit (corner v f && eqb x (before v f))) n ≡ bit (corner v f)
    go true e =
        sum_same (λ x. bit (corner v f && eqb x (before v f))) (λ x. cond (eqb x (before v f)) 1 0) n
        (λ x h. ap (λ t. bit (t && eqb x (before v f))) e ∙ bit_cond (eqb x (before v f)))
        ∙ sum_pick (before v f) 1 n (before_lt n v f k e)
        ∙ sym (ap bit e)
    go false e = sum_zero (λ x. bit (corner v f && eqb x (before v f))) n (λ x h. rw e) ∙ sym (ap bit e)
