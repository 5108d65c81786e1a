-- How the ring of a vertex may change so that it fits (`Triangles`): not at all, by one entry put in, by one for another,
-- by one taken out; and the ring of a new vertex.
-- Assumes nothing.
use mathlib.Core.Path.{◌≡◌, refl, sym, ap, ◌∙◌}
use mathlib.Core.List.{List}
use mathlib.Core.Logic.{◌⊎◌, inl, inr, ⊎_elim, ◌≢◌}
use Prim.Native.Nat.{ℕ, suc, ◌≤◌, ◌<◌}
use native.Mathlib.Omega.{arith}
use lib.ListN.{length}
use borrow.Author.Tests.{eq-eqb, ne_eqb}
use Rattle.mesh.specs.Limits.{least_valence, most_valence}
use Rattle.mesh.specs.Ring.{◌∈◌, next, prev, Follows}
use Rattle.mesh.specs.Edits.{erase, replace, insert_after}
use Rattle.mesh.specs.Mesh.{Mesh, Proper, Sound}
use Rattle.mesh.proofs.Lists.{eq_split}
use Rattle.mesh.proofs.Rings.{All, all_in, Apart, apart_distinct}
use Rattle.mesh.proofs.RingsGoRound.{prev_is_what_it_follows}
use Rattle.mesh.proofs.SoundMeshes.{edge_lt}
use Rattle.mesh.proofs.EditedEntries as X
use Rattle.mesh.proofs.RingsAfterEdits as A
use Rattle.mesh.proofs.Neighbours.{PutAfter, TakenOut, Renamed}
use Rattle.reshape.proofs.Triangles.{Triangle, Among, Stays, Fits}

-- the new vertex is in no old ring
pub new_absent : (M : Mesh) → Sound M → (v : ℕ) → v < M.count → M.count ∈ M.ring v → ⊥
new_absent M S v h m = omega (arith, edge_lt M S v M.count h m)

-- its own ring fits, if each entry in it begins a triangle that is brought
pub new_fits : (M : Mesh) (S : Sound M) (N : Mesh) (gone fresh : List Triangle) (l : List ℕ) → N.ring M.count ≡ l → M.count < N.count
    → Apart l → All (λ u. u < M.count) l → least_valence ≤ length l → length l ≤ most_valence → All (λ u. (w : ℕ) × Among M.count u w fresh) l
    → Fits M S N gone fresh M.count
new_fits M S N gone fresh l is more apart old three short begins = record {
  proper = record {
    short = rw is short;
    known = λ u m. omega (arith, all_in (λ y. y < M.count) l old u (rw is at m));
    other = λ m. absurd (omega (arith, all_in (λ y. y < M.count) l old M.count (rw is at m)));
    distinct = rw is (apart_distinct l apart);
  };
  enough = rw is three;
  cover = λ u m. let b = all_in (λ y. (w : ℕ) × Among M.count y w fresh) l begins u (rw is at m) in (b.0, inl b.1);
  keeps = λ u w s. absurd (let o = s.old in omega arith);
}

module _ (M : Mesh) (S : Sound M) (N : Mesh) (gone fresh : List Triangle) (grows : M.count ≤ N.count) (v : ℕ) (h : v < M.count) where
  P : Proper M v
  P = S.proper v h

  -- an entry that stays where no triangle goes
  stay : (u : ℕ) → u ∈ M.ring v → (Among v u (next (M.ring v) u) gone → ⊥) → Stays M S N gone fresh v u (next (M.ring v) u)
  stay u m k = record { old = h; follows = (m, refl); kept = k }

  -- ---- the ring as it was

  pub same_fits : N.ring v ≡ M.ring v → ((u w : ℕ) → Among v u w gone → ⊥) → Fits M S N gone fresh v
  same_fits e none = record {
    proper = record {
      short = rw e P.short;
      known = λ u m. omega (arith, P.known u (rw e at m));
      other = λ m. P.other (rw e at m);
      distinct = rw e P.distinct;
    };
    enough = rw e (S.three v h);
    cover = λ u m. (next (M.ring v) u, inr (stay u (rw e at m) (none u _)));
    keeps = λ u w s. rw e s.follows;
  }

  -- a triangle that stays does not begin where one goes
  apart : (c n u w : ℕ) → Follows (M.ring v) c n → Among v c n gone → Stays M S N gone fresh v u w → u ≢ c
  apart c n u w f g s e =
      let q : w ≡ n = sym s.follows.1 ∙ ap (next (M.ring v)) e ∙ f.1 in
      s.kept (rw (e, q) g)

  -- ---- x put in after c, before n

  module _ (c x n : ℕ) (is : N.ring v ≡ insert_after c x (M.ring v)) (f : Follows (M.ring v) c n) (new : x ∈ M.ring v → ⊥) where
    put : PutAfter (M.ring v) (N.ring v) c x
    put = rw is (A.after_insert_after (M.ring v) P.distinct c x f.0 new)

    put_in : (u : ℕ) → u ∈ N.ring v → (u ≡ x) ⊎ (u ∈ M.ring v)
    put_in u m = (X.insert_after_in (M.ring v) P.distinct c x f.0 new u).0 (rw is at m)

    in-put : (u : ℕ) → (u ≡ x) ⊎ (u ∈ M.ring v) → u ∈ N.ring v
    in-put u m = rw is ((X.insert_after_in (M.ring v) P.distinct c x f.0 new u).1 m)

    pub insert_follows : Follows (N.ring v) c x × Follows (N.ring v) x n
    insert_follows = ((in-put c (inr f.0), put.next_of_c), (in-put x (inl refl), put.next_of_x ∙ f.1))

    pub insert_long : length (N.ring v) ≡ suc (length (M.ring v))
    insert_long = ap length is ∙ X.insert_after_length c (M.ring v) f.0 x

    pub insert_fits : x ≢ v → x < N.count → length (M.ring v) < most_valence → Among v c x fresh → Among v x n fresh → Among v c n gone
        → ((u w : ℕ) → Among v u w gone → u ≡ c) → Fits M S N gone fresh v
    insert_fits d k room in₁ in₂ out only = record {
      proper = record {
        short = omega (arith, insert_long);
        known = λ u m. ⊎_elim (λ e. omega arith) (λ o. omega (arith, P.known u o)) (put_in u m);
        other = λ m. ⊎_elim (λ e. d (sym e)) (λ o. P.other o) (put_in v m);
        distinct =
            rw is
            (X.more_distinct (M.ring v) (insert_after c x (M.ring v)) x (X.insert_after_times c (M.ring v) f.0 x) P.distinct new);
      };
      enough = omega (arith, insert_long, S.three v h);
      cover = λ u m.
          ⊎_elim
          (λ e. (n, inl (rw e in₂)))
          (λ o.
          ⊎_elim
          (λ e. (x, inl (rw e.1 in₁)))
          (λ e. (next (M.ring v) u, inr (stay u o (λ g. e.1 (only u _ g)))))
          (eq_split u c))
          (put_in u m);
      keeps = λ u w s. (in-put u (inr s.follows.0), put.next_of_others u s.follows.0 (apart c n u w f out s) ∙ s.follows.1);
    }

  -- ---- x for c, between b and n

  module _ (b c x n : ℕ) (is : N.ring v ≡ replace c x (M.ring v)) (f : Follows (M.ring v) c n) (g : Follows (M.ring v) b c)
      (bc : b ≢ c) (nc : n ≢ c) (new : x ∈ M.ring v → ⊥) where
    turned : Renamed (M.ring v) (N.ring v) c x
    turned = rw is (A.after_replace (M.ring v) P.distinct c x f.0 new)

    turned_in : (u : ℕ) → u ∈ N.ring v → (u ≡ x) ⊎ ((u ∈ M.ring v) × (u ≢ c))
    turned_in u m = (X.replace_in (M.ring v) P.distinct c x f.0 new u).0 (rw is at m)

    in-turned : (u : ℕ) → (u ≡ x) ⊎ ((u ∈ M.ring v) × (u ≢ c)) → u ∈ N.ring v
    in-turned u m = rw is ((X.replace_in (M.ring v) P.distinct c x f.0 new u).1 m)

    pub replace_long : length (N.ring v) ≡ length (M.ring v)
    replace_long = ap length is ∙ X.replace_length c (M.ring v) f.0 x

    pub replace_follows : Follows (N.ring v) b x × Follows (N.ring v) x n
    replace_follows = (
      (in-turned b (inr (g.0, bc)), rw (ne_eqb b c bc, g.1, eq-eqb c c refl) at (turned.next_of b g.0)),
      (in-turned x (inl refl), rw (eq-eqb c c refl, f.1, ne_eqb n c nc) at (turned.next_of c f.0)),
    )

    pub replace_fits : x ≢ v → x < N.count → Among v b x fresh → Among v x n fresh → Among v c n gone → Among v b c gone
        → ((u w : ℕ) → Among v u w gone → (u ≡ c) ⊎ (u ≡ b)) → Fits M S N gone fresh v
    replace_fits d k in₁ in₂ out₁ out₂ only = record {
      proper = record {
        short = omega (arith, replace_long, P.short);
        known = λ u m. ⊎_elim (λ e. omega arith) (λ o. omega (arith, P.known u o.0)) (turned_in u m);
        other = λ m. ⊎_elim (λ e. d (sym e)) (λ o. P.other o.0) (turned_in v m);
        distinct = rw is (X.replace_distinct (M.ring v) P.distinct c x f.0 new);
      };
      enough = omega (arith, replace_long, S.three v h);
      cover = λ u m.
          ⊎_elim
          (λ e. (n, inl (rw e in₂)))
          (λ o.
          ⊎_elim
          (λ e. (x, inl (rw e.1 in₁)))
          (λ e. (next (M.ring v) u, inr (stay u o.0 (λ q. ⊎_elim o.1 e.1 (only u _ q)))))
          (eq_split u b))
          (turned_in u m);
      keeps = λ u w s.
          let uc : u ≢ c = apart c n u w f out₁ s in
          let wc : w ≢ c = λ e.
          apart b c u w g out₂ s
          (sym (prev_is_what_it_follows (M.ring v) P.distinct u c s.follows.0 (s.follows.1 ∙ e))
          ∙ prev_is_what_it_follows (M.ring v) P.distinct b c g.0 g.1) in
          (in-turned u (inr (s.follows.0, uc)), rw (ne_eqb u c uc, s.follows.1, ne_eqb w c wc) at (turned.next_of u s.follows.0));
    }

  -- ---- c taken out, from between b and n

  module _ (b c n : ℕ) (is : N.ring v ≡ erase c (M.ring v)) (f : Follows (M.ring v) c n) (g : Follows (M.ring v) b c) (bc : b ≢ c) where
    taken : TakenOut (M.ring v) (N.ring v) c
    taken = rw is (A.after_erase (M.ring v) P.distinct c f.0 (omega (arith, S.three v h)))

    taken_in_lem : (u : ℕ) → u ∈ N.ring v → (u ∈ M.ring v) × (u ≢ c)
    taken_in_lem u m = (X.erase_in (M.ring v) P.distinct c u f.0).0 (rw is at m)

    in_taken : (u : ℕ) → u ∈ M.ring v → u ≢ c → u ∈ N.ring v
    in_taken u m d = rw is ((X.erase_in (M.ring v) P.distinct c u f.0).1 (m, d))

    before : prev (M.ring v) c ≡ b
    before = prev_is_what_it_follows (M.ring v) P.distinct b c g.0 g.1

    pub erase_long : suc (length (N.ring v)) ≡ length (M.ring v)
    erase_long = ap (λ t. suc (length t)) is ∙ X.erase_length c (M.ring v) f.0

    pub erase_follows : Follows (N.ring v) b n
    erase_follows = (in_taken b g.0 bc, ap (next (N.ring v)) (sym before) ∙ taken.next_of_preceder ∙ f.1)

    pub erase_fits : least_valence < length (M.ring v) → Among v b n fresh → Among v c n gone → Among v b c gone
        → ((u w : ℕ) → Among v u w gone → (u ≡ c) ⊎ (u ≡ b)) → Fits M S N gone fresh v
    erase_fits room in₁ out₁ out₂ only = record {
      proper = record {
        short = omega (arith, erase_long, P.short);
        known = λ u m. omega (arith, P.known u (taken_in_lem u m).0);
        other = λ m. P.other (taken_in_lem v m).0;
        distinct = rw is (X.erase_distinct (M.ring v) P.distinct c f.0);
      };
      enough = omega (arith, erase_long);
      cover = λ u m.
          let o = taken_in_lem u m in
          ⊎_elim
          (λ e. (n, inl (rw e.1 in₁)))
          (λ e. (next (M.ring v) u, inr (stay u o.0 (λ q. ⊎_elim o.1 e.1 (only u _ q)))))
          (eq_split u b);
      keeps = λ u w s.
          let uc : u ≢ c = apart c n u w f out₁ s in
          let ub : u ≢ b = apart b c u w g out₂ s in
          (in_taken u s.follows.0 uc, taken.next_of_others u s.follows.0 uc (λ e. ub (e ∙ before)) ∙ s.follows.1);
    }
