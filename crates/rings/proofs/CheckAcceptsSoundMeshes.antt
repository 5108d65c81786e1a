-- The check accepts exactly the tables that have room for V vertices (4 to 1,024), sound rings and coordinates in the range;
-- and where it refuses for a vertex, every earlier reason holds at no vertex, and the vertex named is the lowest at which this one holds.
-- Assumes nothing.
use mathlib.Core.Path.{◌≡◌, refl, ap}
use mathlib.Core.Bool.{Bool, true, false, cond}
use mathlib.Core.List.{List}
use mathlib.Core.Logic.{◌↔◌}
use Prim.Native.Nat.{ℕ, ◌<◌}
use native.Mathlib.Omega.{arith}
use lib.IntN.{ℤ}
use Rattle.mesh.specs.Search.{first, some}
use Rattle.mesh.specs.Tests.{one_sided, open_faced}
use Rattle.mesh.proofs.First.{Clear, some_all}
use Rattle.mesh.proofs.TestsPassWhenSound.{lowest}
use Rattle.rings.specs.Table.{Lent, rows}
use Rattle.rings.specs.Refusal.{number_of, Verdict}
use Rattle.rings.specs.Verdict.{refuse_if, refuse_at}
use Rattle.rings.specs.Check.{bad_count, short_tables, unfit_row, beyond_at, check_verdict}
use Rattle.rings.specs.Accepts.{Accepts}
use Rattle.rings.specs.declared.Refusal.{Refusal}
use Rattle.rings.specs.declared.Refusal.TheVariants.{VertexCount, TableTooShort, RingImproper, NotMutual, NotTriangle, ControlCoordinate}
use Rattle.rings.proofs.Accepted.{accepted_only, accepted_all}
use Rattle.std.specs.Prelude.{Ok, Err}

-- v is the lowest number below n at which the test holds
pub record Lowest (test : ℕ → Bool) (n v : ℕ) : Type 0 where
  pub below : v < n
  pub holds : test v ≡ true
  pub first : (u : ℕ) → u < v → test u ≡ false

-- two refusals differ: so do their numbers
abbrev Other : Refusal → Refusal → Type 0
Other r s = number_of r ≡ number_of s → ⊥

-- a refusal for another reason comes from the rest
past_if : (test : Bool) (reason : Refusal) (rest : Verdict) (r : Refusal) → Other reason r → refuse_if test reason rest ≡ Err r → (test ≡ false) × (rest ≡ Err r)
unfolding refuse_if
past_if true reason rest r o h = absurd (o (let e : reason ≡ r = cc in ap number_of e))
past_if false reason rest r o h = (refl, h)

past_at_lem : (test : ℕ → Bool) (n : ℕ) (reason : ℕ → Refusal) (rest : Verdict) (r : Refusal) → ((v : ℕ) → Other (reason v) r) → refuse_at test n reason rest ≡ Err r
    → Clear test n × (rest ≡ Err r)
unfolding refuse_at
past_at_lem test n reason rest r o h = go (some test n) refl h
  where
    go : (b : Bool) → some test n ≡ b → cond b (Err (reason (first test n))) rest ≡ Err r → Clear test n × (rest ≡ Err r)
    go true e h = absurd (o (first test n) (let q : reason (first test n) ≡ r = cc in ap number_of q))
    go false e h = (some_all test n e, h)

-- a refusal for this reason names the lowest vertex, unless it comes from the rest
stops_at : (test : ℕ → Bool) (n : ℕ) (reason : ℕ → Refusal) (rest : Verdict) (v : ℕ) → ((u : ℕ) → reason u ≡ reason v → u ≡ v) → (rest ≡ Err (reason v) → ⊥)
    → refuse_at test n reason rest ≡ Err (reason v) → Lowest test n v
unfolding refuse_at
stops_at test n reason rest v same never h = go (some test n) refl h
  where
    go : (b : Bool) → some test n ≡ b → cond b (Err (reason (first test n))) rest ≡ Err (reason v) → Lowest test n v
    go true e h =
        let i : first test n ≡ v = same (first test n) (cc) in
        let l = lowest test n e in
        record { below = rw i at l.0; holds = rw i at l.1; first = rw i at l.2 }
    go false e h = absurd (never h)

never_accepted : (r : Refusal) → ◌≡◌ {A = Verdict} (Ok tt) (Err r) → ⊥
never_accepted r h = let z : ◌≡◌ {A = ℕ} 0 1 = cc in omega arith

module _ (n : ℕ) (t : Lent) (ps : List ℤ) where
  -- what the check accepts
  pub check_accepts_sound_meshes : (check_verdict n t ps ≡ (Ok tt)) ↔ Accepts n t ps
  check_accepts_sound_meshes = (accepted_only n t ps, accepted_all n t ps)

  module _ (v : ℕ) where
    -- 4: the lowest vertex whose ring is improper or has a valence under 3
    pub improper_ring_is_lowest : check_verdict n t ps ≡ Err (RingImproper v) → Lowest (unfit_row n t) n v
    unfolding check_verdict
    improper_ring_is_lowest h =
        let a = past_if (bad_count n) VertexCount _ (RingImproper v) (λ e. omega arith) h in
        let b = past_if (short_tables n t ps) TableTooShort _ (RingImproper v) (λ e. omega arith) a.1 in
        stops_at (unfit_row n t) n RingImproper _ v (λ u e. cc) (λ e.
        let c = past_at_lem (one_sided (rows n t)) n NotMutual _ (RingImproper v) (λ u q. omega arith) e in
        let d = past_at_lem (open_faced (rows n t)) n NotTriangle _ (RingImproper v) (λ u q. omega arith) c.1 in
        never_accepted (RingImproper v) (past_at_lem (beyond_at ps) n ControlCoordinate (Ok tt) (RingImproper v) (λ u q. omega arith) d.1).1) b.1

    -- 5: every ring is fit, and v is the lowest vertex that some neighbour lacks
    pub one_sided_is_lowest : check_verdict n t ps ≡ Err (NotMutual v) → Clear (unfit_row n t) n × Lowest (one_sided (rows n t)) n v
    unfolding check_verdict
    one_sided_is_lowest h =
        let a = past_if (bad_count n) VertexCount _ (NotMutual v) (λ e. omega arith) h in
        let b = past_if (short_tables n t ps) TableTooShort _ (NotMutual v) (λ e. omega arith) a.1 in
        let c = past_at_lem (unfit_row n t) n RingImproper _ (NotMutual v) (λ u q. omega arith) b.1 in (
          c.0,
          stops_at (one_sided (rows n t)) n NotMutual _ v (λ u e. cc) (λ e.
              let d = past_at_lem (open_faced (rows n t)) n NotTriangle _ (NotMutual v) (λ u q. omega arith) e in
              never_accepted (NotMutual v) (past_at_lem (beyond_at ps) n ControlCoordinate (Ok tt) (NotMutual v) (λ u q. omega arith) d.1).1) c.1,
        )

    -- 6: besides, no vertex is lacked, and v is the lowest with a face that is no triangle
    pub open_face_is_lowest : check_verdict n t ps ≡ Err (NotTriangle v) → Clear (unfit_row n t) n × Clear (one_sided (rows n t)) n × Lowest (open_faced (rows n t)) n v
    unfolding check_verdict
    open_face_is_lowest h =
        let a = past_if (bad_count n) VertexCount _ (NotTriangle v) (λ e. omega arith) h in
        let b = past_if (short_tables n t ps) TableTooShort _ (NotTriangle v) (λ e. omega arith) a.1 in
        let c = past_at_lem (unfit_row n t) n RingImproper _ (NotTriangle v) (λ u q. omega arith) b.1 in
        let d = past_at_lem (one_sided (rows n t)) n NotMutual _ (NotTriangle v) (λ u q. omega arith) c.1 in (
          c.0,
          d.0,
          stops_at (open_faced (rows n t)) n NotTriangle _ v (λ u e. cc) (λ e.
              never_accepted (NotTriangle v) (past_at_lem (beyond_at ps) n ControlCoordinate (Ok tt) (NotTriangle v) (λ u q. omega arith) e).1) d.1,
        )

    -- 7: the mesh is sound so far, and v is the lowest vertex with a coordinate beyond the range
    pub too_far_is_lowest : check_verdict n t ps ≡ Err (ControlCoordinate v)
        → Clear (unfit_row n t) n × Clear (one_sided (rows n t)) n × Clear (open_faced (rows n t)) n × Lowest (beyond_at ps) n v
    unfolding check_verdict
    too_far_is_lowest h =
        let a = past_if (bad_count n) VertexCount _ (ControlCoordinate v) (λ e. omega arith) h in
        let b = past_if (short_tables n t ps) TableTooShort _ (ControlCoordinate v) (λ e. omega arith) a.1 in
        let c = past_at_lem (unfit_row n t) n RingImproper _ (ControlCoordinate v) (λ u q. omega arith) b.1 in
        let d = past_at_lem (one_sided (rows n t)) n NotMutual _ (ControlCoordinate v) (λ u q. omega arith) c.1 in
        let e = past_at_lem (open_faced (rows n t)) n NotTriangle _ (ControlCoordinate v) (λ u q. omega arith) d.1 in
        (c.0, d.0, e.0, stops_at (beyond_at ps) n ControlCoordinate (Ok tt) v (λ u q. cc) (never_accepted (ControlCoordinate v)) e.1)
