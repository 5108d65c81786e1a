-- The verdict on an edge, as the judging functions find it. Assumes nothing.
use mathlib.Core.Path.{◌≡◌, refl, sym, ap, ◌∙◌}
use mathlib.Core.Bool.{Bool, true, false, not, ◌||◌}
use mathlib.Core.List.{List}
use Prim.Native.Nat.{ℕ, ◌≤◌, ◌<◌, min, max}
use native.Mathlib.Omega.{arith}
use lib.Dec.{leb}
use lib.IntN.{ℤ}
use lib.ListN.{length}
use borrow.Author.Tests.{le-leb, lt-leb, not-false}
use Rattle.mesh.specs.Limits.{most_valence, least_valence}
use Rattle.mesh.specs.Ring.{has, next, prev}
use Rattle.mesh.proofs.Places.{has_in}
use Rattle.mesh.proofs.Rings.{next_in, prev_in}
use Rattle.rings.specs.Table.{Lent, valence_at, rows, ring_of}
use Rattle.rings.specs.Accepts.{HasRow}
use Rattle.rings.specs.Verdict.{refuse_if, and_then}
use Rattle.rings.specs.Check.{check_verdict}
use Rattle.rings.specs.declared.Refusal.{Refusal}
use Rattle.rings.specs.declared.Refusal.TheVariants.{NoSuchVertex, RingFull, NoEdgeOrFace, CannotFlip}
use Rattle.rings.proofs.Rows.{rows_ring, fit_row}
use Rattle.rings.proofs.Verdicts.{if_hit, if_pass}
use Rattle.ring_beside.specs.Beside.{after_in, before_in}
use Rattle.ring_beside.specs.declared.Beside.{Beside}
use Rattle.ring_beside.proofs.BesideFound.{after_found, after_not_found, before_found, before_not_found}
use Rattle.reshape.specs.Reshape.{beyond, behind, no_edge, full_beside, cannot_flip}
use Rattle.reshape_tables.specs.Calls.{edge_verdict, turn_verdict}
use Rattle.reshape_tables.proofs.Judged.{edge_judged}
use Rattle.reshape_room.specs.Checked.{Checked}
use Rattle.reshape_room.proofs.CheckedTables.{valence_is, in_table, entry_lt, full_is}
use Rattle.reshape_edge.specs.Judged.{EdgeFound, with_edge}
use Rattle.reshape_edge.specs.declared.Edge.{Edge}
use Rattle.rings.specs.Refusal.{Verdict}
use Rattle.std.specs.Prelude.{Result, Ok, Err}
use Rattle.std.specs.declared.option.Option.TheVariants.{Some, None}

-- ---- 3, 18 and 16

-- one reason for two causes is judged cause after cause
either : (a b : Bool) → refuse_if (a || b) RingFull (Ok tt) ≡ refuse_if a RingFull (refuse_if b RingFull (Ok tt))
unfolding refuse_if
either true b = refl
either false b = refl

-- u and v are vertices, p the lesser and q the greater, and r is p's ring
pub record Ends (n : ℕ) (t : Lent) (u v p q : ℕ) (r : List ℕ) : Type 0 where
  pub checked : Checked n t
  pub u_lt : u < n
  pub v_lt : v < n
  pub p_is : p ≡ min u v
  pub q_is : q ≡ max u v
  pub ring : r ≡ ring_of t p

module _ (n : ℕ) (t : Lent) (u v : ℕ) where
  -- what the judging of the edge answers
  abbrev pub Answer : Result Edge Refusal
  Answer = with_edge (edge_verdict n t u v) (rows n t) u v

  pub unknown_u : n ≤ u → Err (NoSuchVertex 0) ≡ Answer
  unfolding edge_verdict refuse_if with_edge
  unknown_u h = rw (le-leb n u h)

  pub unknown_v : u < n → n ≤ v → Err (NoSuchVertex 0) ≡ Answer
  unfolding edge_verdict refuse_if with_edge
  unknown_v g h = rw (lt-leb n u g, le-leb n v h)

  pub ends_of : {p q : ℕ} {r : List ℕ} → Checked n t → u < n → v < n → p ≡ min u v → q ≡ max u v → r ≡ ring_of t p → Ends n t u v p q r
  ends_of c g h i j k = record { checked = c; u_lt = g; v_lt = h; p_is = i; q_is = j; ring = k }

  pub ends_row : Checked n t → u < n → v < n → (p : ℕ) → p ≡ min u v → HasRow t p
  ends_row c g h p p_is = fit_row c.fit (omega arith)

module _ {n : ℕ} {t : Lent} {u v p q : ℕ} {r : List ℕ} (e : Ends n t u v p q r) where
  p_lt : p < n
  p_lt = let i = e.p_is in let g = e.u_lt in let h = e.v_lt in omega arith

  ring_is : (rows n t).ring (min u v) ≡ r
  ring_is = ap (rows n t).ring (sym e.p_is) ∙ rows_ring n t p p_lt ∙ sym e.ring

  none : has q r ≡ false → Err NoEdgeOrFace ≡ Answer n t u v
  unfolding edge_verdict refuse_if with_edge no_edge
  none h = rw (lt-leb n u e.u_lt, lt-leb n v e.v_lt, ring_is, ← e.q_is, h)

  pub nothing_after : None ≡ after_in r q → Err NoEdgeOrFace ≡ Answer n t u v
  nothing_after h = none (after_not_found r q h)

  pub nothing_before : None ≡ before_in r q → Err NoEdgeOrFace ≡ Answer n t u v
  nothing_before h = none (before_not_found r q h)

  -- x is found behind q, and y before it
  module _ {x : Beside} (after : Some x ≡ after_in r q) where
    pub after_lt : x.vertex < n
    after_lt =
        let f = after_found r q after in
        entry_lt e.checked p x.vertex p_lt (rw (← e.ring, f.1) (next_in r q (has_in q r f.0)))

    module _ {y : Beside} (before : Some y ≡ before_in r q) where
      pub before_lt : y.vertex < n
      before_lt =
          let f = before_found r q before in
          entry_lt e.checked p y.vertex p_lt (rw (← e.ring, f.1) (prev_in r q (has_in q r f.0)))

      -- the edge with the vertices found
      abbrev here : Edge
      here = record { p = p; q = q; a = x.vertex; b = y.vertex }

      told_edge : edge_verdict n t u v ≡ Ok tt → Ok here ≡ Answer n t u v
      unfolding with_edge
      told_edge h = rw (h, ring_is, ← e.p_is, ← e.q_is, (after_found r q after).1, (before_found r q before).1)

      verdict_is : edge_verdict n t u v
          ≡ refuse_if (leb most_valence (valence_at t x.vertex)) RingFull (refuse_if (leb most_valence (valence_at t y.vertex)) RingFull (Ok tt))
      unfolding edge_verdict no_edge full_beside refuse_if
      verdict_is =
          let f = after_found r q after in
          let l = before_found r q before in
          rw (lt-leb n u e.u_lt, lt-leb n v e.v_lt, ring_is, ← e.q_is, f.0, ← f.1, ← l.1)
          (rw (← full_is e.checked x.vertex after_lt, ← full_is e.checked y.vertex before_lt)
          (either (leb most_valence (valence_at t x.vertex)) (leb most_valence (valence_at t y.vertex))))

      module _ (d : Bool) (k : d ≡ leb most_valence (valence_at t x.vertex)) where
        pub full_after : d ≡ true → Err RingFull ≡ Answer n t u v
        unfolding with_edge refuse_if
        full_after o = rw (verdict_is, ← k, o)

        module _ (f : d ≡ false) (g : Bool) (l : g ≡ leb most_valence (valence_at t y.vertex)) where
          pub full_before : g ≡ true → Err RingFull ≡ Answer n t u v
          unfolding with_edge refuse_if
          full_before o = rw (verdict_is, ← k, f, ← l, o)

          pub both_free : g ≡ false → Ok here ≡ Answer n t u v
          unfolding refuse_if
          both_free o = told_edge (rw (verdict_is, ← k, f, ← l, o))

-- ---- what is handed on tells

-- the verdict w accepts, and e is the edge from its lesser end to its greater with the vertices beside it
pub record EdgeTold (n : ℕ) (t : Lent) (u v : ℕ) (w : Verdict) (e : Edge) : Type 0 where
  pub accepts : Ok tt ≡ w
  pub p_is : e.p ≡ min u v
  pub q_is : e.q ≡ max u v
  pub a_is : e.a ≡ beyond (rows n t) e.p e.q
  pub b_is : e.b ≡ behind (rows n t) e.p e.q

module _ (n : ℕ) (t : Lent) (u v : ℕ) where
  pub edge_told : (w : Verdict) {e : Edge} → Ok e ≡ with_edge w (rows n t) u v → EdgeTold n t u v w e
  unfolding with_edge
  edge_told (Ok _) {e} h =
      let p : ℕ = min u v in
      let q : ℕ = max u v in
      let same : e ≡ record { p = p; q = q; a = beyond (rows n t) p q; b = behind (rows n t) p q } = cc in
      rw same (record { accepts = refl; p_is = refl; q_is = refl; a_is = refl; b_is = refl })
  edge_told (Err r) h = absurd (let z : ◌≡◌ {A = ℕ} 0 1 = cc in omega arith)

  pub refusal_told : (w : Verdict) {r : Refusal} → Err r ≡ with_edge w (rows n t) u v → Err r ≡ w
  unfolding with_edge
  refusal_told (Ok _) h = absurd (let z : ◌≡◌ {A = ℕ} 0 1 = cc in omega arith)
  refusal_told (Err r) h = cc

  -- an edge that passed 3, 18 and 16 is one of the tables
  pub found : Checked n t → {e : Edge} → Ok e ≡ Answer n t u v → EdgeFound n t e.p e.q e.a e.b
  unfolding no_edge
  found c {e} h =
      let o = edge_told (edge_verdict n t u v) h in
      let j = edge_judged n t u v (sym o.accepts) in
      let x = j.u_lt in
      let y = j.v_lt in
      let i = o.p_is in
      let k = o.q_is in
      let p_lt : e.p < n = omega arith in
      let ring = rows_ring n t e.p p_lt in
      let there : not (has e.q ((rows n t).ring e.p)) ≡ false = rw (i, k) j.edge in
      record {
        checked = c;
        p_lt = p_lt;
        q_lt = omega arith;
        there = has_in e.q (ring_of t e.p) (rw (← ring) (not-false _ there));
        a_is = o.a_is ∙ ap (λ (l : List ℕ). next l e.q) ring;
        b_is = o.b_is ∙ ap (λ (l : List ℕ). prev l e.q) ring;
      }

-- ---- 19

module _ {n : ℕ} {t : Lent} {p q a b : ℕ} (e : EdgeFound n t p q a b) where
  pub lesser_row : p < length t.valences
  lesser_row = in_table e.checked p e.p_lt

  pub greater_row : q < length t.valences
  greater_row = in_table e.checked q e.q_lt

  beyond_lt : a < n
  beyond_lt = entry_lt e.checked p a e.p_lt (rw e.a_is (next_in (ring_of t p) q e.there))

  pub beyond_row : HasRow t a
  beyond_row = fit_row e.checked.fit beyond_lt

  beyond_is : beyond (rows n t) p q ≡ a
  beyond_is = ap (λ (l : List ℕ). next l q) (rows_ring n t p e.p_lt) ∙ sym e.a_is

  behind_is : behind (rows n t) p q ≡ b
  behind_is = ap (λ (l : List ℕ). prev l q) (rows_ring n t p e.p_lt) ∙ sym e.b_is

  lesser_valence : length ((rows n t).ring p) ≡ valence_at t p
  lesser_valence = valence_is e.checked p e.p_lt

  greater_valence : length ((rows n t).ring q) ≡ valence_at t q
  greater_valence = valence_is e.checked q e.q_lt

  pub lesser_of_three : valence_at t p ≤ least_valence → true ≡ cannot_flip (rows n t) p q
  unfolding cannot_flip
  lesser_of_three h = rw (lesser_valence, le-leb (valence_at t p) least_valence h)

  module _ (g : least_valence < valence_at t p) where
    pub greater_of_three : valence_at t q ≤ least_valence → true ≡ cannot_flip (rows n t) p q
    unfolding cannot_flip
    greater_of_three h = rw (lesser_valence, greater_valence, lt-leb (valence_at t p) least_valence g, le-leb (valence_at t q) least_valence h)

    pub joined_or_not : least_valence < valence_at t q → (r : List ℕ) → r ≡ ring_of t a → (d : Bool) → d ≡ has b r
        → d ≡ cannot_flip (rows n t) p q
    unfolding cannot_flip
    joined_or_not h r ring d i =
        i ∙ rw (lesser_valence, greater_valence, lt-leb (valence_at t p) least_valence g, lt-leb (valence_at t q) least_valence h)
        (rw (beyond_is, behind_is, rows_ring n t a beyond_lt, ring))

module _ (n : ℕ) (t : Lent) (u v : ℕ) where
  module _ (d : Bool) {e : Edge} (k : Ok e ≡ Answer n t u v) (i : d ≡ cannot_flip (rows n t) e.p e.q) where
    turn : d ≡ cannot_flip (rows n t) (min u v) (max u v)
    turn = let o = edge_told n t u v (edge_verdict n t u v) k in rw (← o.p_is, ← o.q_is) i

    pub cannot_turn : d ≡ true → Err CannotFlip ≡ turn_verdict n t u v
    unfolding turn_verdict
    cannot_turn h = if_hit (cannot_flip (rows n t) (min u v) (max u v)) CannotFlip (Ok tt) d turn h

    pub can_turn : d ≡ false → Ok tt ≡ turn_verdict n t u v
    unfolding turn_verdict
    can_turn h = sym (if_pass (cannot_flip (rows n t) (min u v) (max u v)) CannotFlip (Ok tt) d turn h)

-- ---- the calls' verdicts

module _ (n : ℕ) (t : Lent) (ps : List ℤ) (u v : ℕ) where
  -- what the judging of a call answers whose last verdict is this
  abbrev Judged : Verdict → Result Edge Refusal
  Judged last = with_edge (and_then (check_verdict n t ps) (and_then (edge_verdict n t u v) last)) (rows n t) u v

  pub by_check : (last : Verdict) {r : Refusal} → Err r ≡ check_verdict n t ps → Err r ≡ Judged last
  unfolding and_then with_edge
  by_check last h = rw (← h)

  module _ (last : Verdict) (h : Ok tt ≡ check_verdict n t ps) where
    pub by_edge : {r : Refusal} → Err r ≡ Answer n t u v → Err r ≡ Judged last
    unfolding and_then with_edge
    by_edge k = rw (← h, ← refusal_told n t u v (edge_verdict n t u v) k)

    module _ {e : Edge} (k : Ok e ≡ Answer n t u v) where
      pub by_last : {r : Refusal} → Err r ≡ last → Err r ≡ Judged last
      unfolding and_then with_edge
      by_last l = rw (← h, ← (edge_told n t u v (edge_verdict n t u v) k).accepts, ← l)

      pub accepted : Ok tt ≡ last → Ok e ≡ Judged last
      unfolding and_then
      accepted l =
          let told = (edge_told n t u v (edge_verdict n t u v) k).accepts in
          rw (← h, ← l, ← told) (k ∙ ap (λ (w : Verdict). with_edge w (rows n t) u v) (sym told))
