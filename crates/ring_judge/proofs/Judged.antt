-- What a ring call's verdict is at each of its outcomes, and what an accepted one tells. Assumes nothing.
use Prim.Native.Nat.{ℕ, ◌≤◌, ◌<◌}
use mathlib.Core.Path.{◌≡◌, refl, sym, ap, ◌∙◌}
use mathlib.Core.Bool.{Bool, true, false, ◌||◌}
use mathlib.Core.List.{List}
use native.Mathlib.Omega.{arith}
use lib.ListN.{length}
use lib.Dec.{leb, ltb}
use borrow.Author.Tests.{le-leb, lt-leb, leb-false, lt-ltb, le-ltb, ltb-false, eq-eqb, ne_eqb}
use Rattle.mesh.specs.Limits.{place_bound}
use Rattle.mesh.specs.Search.{first, some}
use Rattle.mesh.specs.Ring.{has}
use Rattle.mesh.specs.Tests.{bad_at}
use Rattle.mesh.proofs.First.{Clear, some_not, some_all, some_at, none_some, some_is, first_clear}
use Rattle.rings.specs.Table.{Lent, valence_at, ring_of}
use Rattle.rings.specs.Verdict.{refuse_if, and_then}
use Rattle.rings.specs.Check.{bad_count, short_rings, improper_row}
use Rattle.rings.specs.Accepts.{Room, HasRow}
use Rattle.rings.specs.declared.Refusal.{Refusal}
use Rattle.rings.specs.declared.Refusal.TheVariants.{RingImproper, NoSuchVertex, NeighbourTaken, RingFull}
use Rattle.rings.proofs.Verdicts.{if_accepted, at_accepted, then_accepted, if_hit, if_pass, at_hit, at_pass}
use Rattle.rings.proofs.Checks.{good_count, long_rings}
use Rattle.rings.proofs.Rows.{room_row, improper_row_lem}
use Rattle.ring_judge.specs.Judging.{table_verdict, call_verdict, taken, entry_verdict, unknown_at, taken_at, make_verdict}
use Rattle.std.specs.Prelude.{Ok, Err}

-- a test that agrees with another below n
same_some : (p q : ℕ → Bool) (n : ℕ) → ((k : ℕ) → k < n → p k ≡ q k) → some p n ≡ some q n
same_some p q n h = go (some p n) refl
  where
    go : (b : Bool) → some p n ≡ b → some p n ≡ some q n
    go true e =
        let f = some_at p n e in
        e ∙ some_is {i = first p n} (record { below = λ k l. sym (h k (omega arith)) ∙ (first_clear p n).below k l }) f.0 (sym (h (first p n) f.0) ∙ f.1)
    go false e = e ∙ sym (none_some q n (λ k l. sym (h k l) ∙ (some_all p n e).below k l))

module _ (n : ℕ) (t : Lent) (v : ℕ) where
  -- ---- 2, 1, 3: every call

  pub record Tabled : Type 0 where
    pub below : v < n
    pub most : n ≤ 1024
    pub room : Room n t

  pub tabled : (Ok tt) ≡ table_verdict n t v → Tabled
  unfolding table_verdict
  tabled h =
      let a = if_accepted (bad_count n) _ _ (sym h) in
      let b = if_accepted (short_rings n t) _ _ a.1 in
      let c = if_accepted (leb n v) _ _ b.1 in
      record { below = leb-false n v c.0; most = (good_count n a.0).1; room = long_rings n t b.0 }

  -- ---- 4: all but a make

  pub call_refused : (r : Refusal) → Err r ≡ table_verdict n t v → Err r ≡ call_verdict n t v
  unfolding call_verdict and_then
  call_refused r e = rw (← e)

  module _ (e : (Ok tt) ≡ table_verdict n t v) (b : Bool) (q : b ≡ improper_row n t v) where
    pub call_hit : b ≡ true → Err (RingImproper v) ≡ call_verdict n t v
    unfolding call_verdict and_then refuse_if
    call_hit h = rw (← e, ← q, h)

    pub call_pass : b ≡ false → (Ok tt) ≡ call_verdict n t v
    unfolding call_verdict and_then refuse_if
    call_pass h = rw (← e, ← q, h)

  -- v's ring is in the tables, and not improper
  pub record Called : Type 0 where
    pub tables : (Ok tt) ≡ table_verdict n t v
    pub proper : improper_row n t v ≡ false
    pub most : valence_at t v ≤ 32
    pub row : HasRow t v

  pub called : (Ok tt) ≡ call_verdict n t v → Called
  unfolding call_verdict
  called h =
      let a = then_accepted (table_verdict n t v) _ (sym h) in
      let b = if_accepted (improper_row n t v) _ _ a.1 in
      let y = tabled (sym a.0) in
      let m = (improper_row_lem n t v b.0).0 in
      record { tables = sym a.0; proper = b.0; most = m; row = room_row y.room y.below m }

  -- ---- 3 and 15 for x: a replacing and an inserting

  pub entry_refused : (x : ℕ) (r : Refusal) → Err r ≡ call_verdict n t v → Err r ≡ entry_verdict n t v x
  unfolding entry_verdict and_then
  entry_refused x r e = rw (← e)

  module _ (e : (Ok tt) ≡ call_verdict n t v) (x : ℕ) where
    pub entry_unknown : n ≤ x → Err (NoSuchVertex 0) ≡ entry_verdict n t v x
    unfolding entry_verdict and_then refuse_if
    entry_unknown h = rw (← e, le-leb n x h)

    module _ (k : x < n) where
      pub entry_self : x ≡ v → Err NeighbourTaken ≡ entry_verdict n t v x
      unfolding entry_verdict and_then refuse_if taken
      entry_self h = rw (← e, lt-leb n x k, eq-eqb x v h)

      module _ (d : x ≡ v → ⊥) (l : List ℕ) (p : l ≡ ring_of t v) (b : Bool) (q : b ≡ has x l) where
        pub entry_there : b ≡ true → Err NeighbourTaken ≡ entry_verdict n t v x
        unfolding entry_verdict and_then refuse_if taken
        entry_there h = rw (← e, lt-leb n x k, ne_eqb x v d, ← p, ← q, h)

        pub entry_pass : b ≡ false → (Ok tt) ≡ entry_verdict n t v x
        unfolding entry_verdict and_then refuse_if taken
        entry_pass h = rw (← e, lt-leb n x k, ne_eqb x v d, ← p, ← q, h)

  -- x is a vertex, and neither v nor in its ring
  pub record Entered (x : ℕ) : Type 0 where
    pub call : (Ok tt) ≡ call_verdict n t v
    pub known : x < n
    pub free : taken n t v x ≡ false
    pub small : x < place_bound

  pub entered : (x : ℕ) → (Ok tt) ≡ entry_verdict n t v x → Entered x
  unfolding entry_verdict
  entered x h =
      let a = then_accepted (call_verdict n t v) _ (sym h) in
      let b = if_accepted (leb n x) _ _ a.1 in
      let c = if_accepted (taken n t v x) _ _ b.1 in
      let k : x < n = leb-false n x b.0 in
      let m : n ≤ 1024 = (tabled (called (sym a.0)).tables).most in
      record { call = sym a.0; known = k; free = c.0; small = omega arith }

  -- ---- 16, 3 and 15 for a list: a make

  pub make_refused : (l : List ℕ) (r : Refusal) → Err r ≡ table_verdict n t v → Err r ≡ make_verdict n t v l
  unfolding make_verdict and_then
  make_refused l r e = rw (← e)

  -- where every number is a vertex, a bad place is one that is taken
  taken_only : (l : List ℕ) → Clear (unknown_at n l) (length l) → some (bad_at n v l) (length l) ≡ some (taken_at v l) (length l)
  unfolding bad_at
  taken_only l c = same_some (bad_at n v l) (taken_at v l) (length l) (λ k h. ap (λ (b : Bool). b || taken_at v l k) (c.below k h))

  module _ (e : (Ok tt) ≡ table_verdict n t v) (l : List ℕ) where
    pub make_full : 32 < length l → Err RingFull ≡ make_verdict n t v l
    unfolding make_verdict and_then refuse_if
    make_full h = rw (← e, lt-ltb 32 (length l) h)

    module _ (h : length l ≤ 32) (i : ℕ) (q : i ≡ first (unknown_at n l) (length l)) where
      pub make_unknown : i < length l → Err (NoSuchVertex i) ≡ make_verdict n t v l
      unfolding make_verdict and_then refuse_if
      make_unknown k = rw (← e, le-ltb 32 (length l) h) (at_hit (unknown_at n l) (length l) NoSuchVertex _ i q k)

      module _ (k : length l ≤ i) (b : Bool) (y : b ≡ some (bad_at n v l) (length l)) where
        rest : refuse_if (some (taken_at v l) (length l)) NeighbourTaken (Ok tt) ≡ make_verdict n t v l
        unfolding make_verdict and_then refuse_if
        rest = rw (← e, le-ltb 32 (length l) h) (sym (at_pass (unknown_at n l) (length l) NoSuchVertex _ i q k))

        told : b ≡ some (taken_at v l) (length l)
        told = y ∙ taken_only l (some_all (unknown_at n l) (length l) (some_not (unknown_at n l) q k))

        pub make_taken : b ≡ true → Err NeighbourTaken ≡ make_verdict n t v l
        make_taken z = if_hit _ _ _ b told z ∙ rest

        pub make_pass : b ≡ false → (Ok tt) ≡ make_verdict n t v l
        make_pass z = sym (if_pass _ _ _ b told z) ∙ rest

  -- the list is no longer than 32, and has no bad place
  pub record Made (l : List ℕ) : Type 0 where
    pub tables : (Ok tt) ≡ table_verdict n t v
    pub most : length l ≤ 32
    pub good : some (bad_at n v l) (length l) ≡ false

  pub made : (l : List ℕ) → (Ok tt) ≡ make_verdict n t v l → Made l
  unfolding make_verdict
  made l h =
      let a = then_accepted (table_verdict n t v) _ (sym h) in
      let b = if_accepted (ltb 32 (length l)) _ _ a.1 in
      let c = at_accepted (unknown_at n l) (length l) _ _ b.1 in
      let d = if_accepted (some (taken_at v l) (length l)) _ _ c.1 in
      record { tables = sym a.0; most = ltb-false 32 (length l) b.0; good = taken_only l c.0 ∙ d.0 }
