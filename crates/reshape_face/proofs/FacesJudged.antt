-- The verdict on a face, as the judging functions find it. Assumes nothing.
use mathlib.Core.Path.{◌≡◌, refl, sym, ap, ◌∙◌}
use mathlib.Core.Bool.{Bool, true, false}
use mathlib.Core.List.{List}
use Prim.Native.Nat.{ℕ, ◌≤◌, ◌<◌, min}
use native.Mathlib.Omega.{arith}
use lib.Dec.{ltb, leb}
use lib.IntN.{ℤ}
use borrow.Author.Tests.{lt-ltb, le-ltb, le-leb, lt-leb, ltb-true, ltb-false}
use Rattle.mesh.specs.Limits.{most_valence}
use Rattle.mesh.specs.Ring.{follows}
use Rattle.rings.specs.Table.{Lent, valence_at, rows, ring_of}
use Rattle.rings.specs.Verdict.{refuse_if, and_then}
use Rattle.rings.specs.Check.{check_verdict}
use Rattle.rings.specs.declared.Refusal.{Refusal}
use Rattle.rings.specs.declared.Refusal.TheVariants.{NoSuchVertex, RingFull, NoEdgeOrFace}
use Rattle.rings.proofs.Rows.{rows_ring}
use Rattle.rings.proofs.Verdicts.{if_hit, if_pass}
use Rattle.reshape.specs.Reshape.{from_smallest, no_face, full_corner}
use Rattle.reshape_tables.specs.Calls.{face_verdict, new_verdict, split_face_verdict}
use Rattle.reshape_room.specs.Checked.{Checked}
use Rattle.reshape_room.proofs.CheckedTables.{full_is}
use Rattle.reshape_face.specs.Judged.{with_face}
use Rattle.reshape_face.specs.declared.Face.{Face}
use Rattle.rings.specs.Refusal.{Verdict}
use Rattle.std.specs.Prelude.{Result, Ok, Err}

-- ---- 3, 18 and 16

-- 3 and 18 do not refuse the face: 16 is left
pub record Found (n : ℕ) (t : Lent) (u v w : ℕ) : Type 0 where
  pub checked : Checked n t
  pub u_lt : u < n
  pub v_lt : v < n
  pub w_lt : w < n
  pub rest : refuse_if (full_corner (rows n t) u v w) RingFull (Ok tt) ≡ face_verdict n t u v w

module _ (n : ℕ) (t : Lent) (u v w : ℕ) where
  pub unknown_u : n ≤ u → Err (NoSuchVertex 0) ≡ face_verdict n t u v w
  unfolding face_verdict refuse_if
  unknown_u h = rw (le-leb n u h)

  pub unknown_v : u < n → n ≤ v → Err (NoSuchVertex 0) ≡ face_verdict n t u v w
  unfolding face_verdict refuse_if
  unknown_v a h = rw (lt-leb n u a, le-leb n v h)

  pub unknown_w : u < n → v < n → n ≤ w → Err (NoSuchVertex 0) ≡ face_verdict n t u v w
  unfolding face_verdict refuse_if
  unknown_w a b h = rw (lt-leb n u a, lt-leb n v b, le-leb n w h)

  -- what is found in the ring r of v
  module _ (k : Checked n t) (a : u < n) (b : v < n) (c : w < n) (r : List ℕ) (ring : r ≡ ring_of t v) (o : Bool) (at : o ≡ follows r u w) where
    face_is : o ≡ follows ((rows n t).ring v) u w
    face_is = at ∙ ap (λ (l : List ℕ). follows l u w) (ring ∙ sym (rows_ring n t v b))

    pub no_face_lem : o ≡ false → Err NoEdgeOrFace ≡ face_verdict n t u v w
    unfolding face_verdict refuse_if no_face
    no_face_lem h = rw (lt-leb n u a, lt-leb n v b, lt-leb n w c, ← face_is, h)

    pub face_found : o ≡ true → Found n t u v w
    unfolding face_verdict refuse_if no_face
    face_found h = record { checked = k; u_lt = a; v_lt = b; w_lt = c; rest = rw (lt-leb n u a, lt-leb n v b, lt-leb n w c, ← face_is, h) }

  -- and in the valences of the corners
  module _ (f : Found n t u v w) (x : Bool) (x_is : x ≡ leb most_valence (valence_at t u)) where
    pub full_u : x ≡ true → Err RingFull ≡ face_verdict n t u v w
    unfolding refuse_if full_corner
    full_u h = rw (← f.rest, ← full_is f.checked u f.u_lt, ← x_is, h)

    module _ (p : x ≡ false) (y : Bool) (y_is : y ≡ leb most_valence (valence_at t v)) where
      pub full_v : y ≡ true → Err RingFull ≡ face_verdict n t u v w
      unfolding refuse_if full_corner
      full_v h = rw (← f.rest, ← full_is f.checked u f.u_lt, ← x_is, p, ← full_is f.checked v f.v_lt, ← y_is, h)

      module _ (q : y ≡ false) (z : Bool) (z_is : z ≡ leb most_valence (valence_at t w)) where
        full_last : z ≡ full_corner (rows n t) u v w
        unfolding full_corner
        full_last =
            let k = f.checked in
            z_is ∙ full_is k w f.w_lt ∙ rw (← full_is k u f.u_lt, ← x_is, p, ← full_is k v f.v_lt, ← y_is, q)

        pub full_w : z ≡ true → Err RingFull ≡ face_verdict n t u v w
        full_w h = if_hit _ RingFull (Ok tt) z full_last h ∙ f.rest

        pub free : z ≡ false → Ok tt ≡ face_verdict n t u v w
        free h = sym (if_pass _ RingFull (Ok tt) z full_last h) ∙ f.rest

-- ---- from the smallest corner on

-- the two tests that may show that x is not below both
pub not_below_first : (x y z : ℕ) → y ≤ x → min y z ≤ x
not_below_first x y z h = omega arith

pub not_below_second : (x y z : ℕ) → ltb x z ≡ false → min y z ≤ x
not_below_second x y z h = let k = ltb-false x z h in omega arith

-- three corners in this order
abbrev corners : ℕ → ℕ → ℕ → Face
corners u v w = record { u = u; v = v; w = w }

module _ (u v w : ℕ) where
  pub first_smallest : u < v → ltb u w ≡ true → Ok (corners u v w) ≡ with_face (Ok tt) u v w
  unfolding with_face from_smallest
  first_smallest h g = rw (lt-ltb u (min v w) (let k = ltb-true u w g in omega arith))

  module _ (h : min v w ≤ u) where
    pub second_smallest : v < w → ltb v u ≡ true → Ok (corners v w u) ≡ with_face (Ok tt) u v w
    unfolding with_face from_smallest
    second_smallest a b = rw (le-ltb u (min v w) h, lt-ltb v (min w u) (let k = ltb-true v u b in omega arith))

    pub third_smallest : min w u ≤ v → Ok (corners w u v) ≡ with_face (Ok tt) u v w
    unfolding with_face from_smallest
    third_smallest g = rw (le-ltb u (min v w) h, le-ltb v (min w u) g)

-- ---- the split

module _ (n : ℕ) (t : Lent) (ps : List ℤ) (u v w : ℕ) where
  -- what the judging of a split answers
  abbrev Judged : Result Face Refusal
  Judged = with_face (split_face_verdict n t ps u v w) u v w

  pub by_check : (r : Refusal) → Err r ≡ check_verdict n t ps → Err r ≡ Judged
  unfolding with_face split_face_verdict and_then
  by_check r h = rw (← h)

  module _ (a : Ok tt ≡ check_verdict n t ps) where
    pub by_face : (r : Refusal) → Err r ≡ face_verdict n t u v w → Err r ≡ Judged
    unfolding with_face split_face_verdict and_then
    by_face r h = rw (← a, ← h)

    module _ (b : Ok tt ≡ face_verdict n t u v w) where
      pub by_last : (r : Refusal) → Err r ≡ new_verdict n t ps → Err r ≡ Judged
      unfolding with_face split_face_verdict and_then
      by_last r h = rw (← a, ← b, ← h)

      pub accepted : Ok tt ≡ new_verdict n t ps → (x : Face) → Ok x ≡ with_face (Ok tt) u v w → Ok x ≡ Judged
      unfolding split_face_verdict and_then
      accepted h x e = e ∙ rw (← a, ← b, ← h)

-- ---- what is handed on tells the verdict

-- it accepts, and f's corners go from the smallest on
pub record FaceTold (d : Verdict) (u v w : ℕ) (f : Face) : Type 0 where
  pub accepts : Ok tt ≡ d
  pub one : f.u ≡ (from_smallest u v w).one
  pub two : f.v ≡ (from_smallest u v w).two
  pub three : f.w ≡ (from_smallest u v w).three

pub face_told : (d : Verdict) (u v w : ℕ) {f : Face} → Ok f ≡ with_face d u v w → FaceTold d u v w f
unfolding with_face
face_told (Ok _) u v w {f} h =
    let c = from_smallest u v w in
    let same : f ≡ corners c.one c.two c.three = cc in
    rw same (record { accepts = refl; one = refl; two = refl; three = refl })
face_told (Err r) u v w h = absurd (let z : ◌≡◌ {A = ℕ} 0 1 = cc in omega arith)

pub refusal_told : (d : Verdict) (u v w : ℕ) {r : Refusal} → Err r ≡ with_face d u v w → Err r ≡ d
unfolding with_face
refusal_told (Ok _) u v w h = absurd (let z : ◌≡◌ {A = ℕ} 0 1 = cc in omega arith)
refusal_told (Err r) u v w h = cc
