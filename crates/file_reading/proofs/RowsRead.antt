-- What reading a row, all rows, and each return of `read` shows. Assumes nothing.
use Prim.Native.Nat.{ℕ, ◌+◌, ◌*◌, ◌≤◌}
use mathlib.Core.Path.{◌≡◌, refl, sym, ap, ◌∙◌}
use mathlib.Core.Bool.{Bool, true, false}
use mathlib.Core.List.{List, [], ◌∷◌, ◌++◌}
use native.Mathlib.Numerals.{add-one}
use native.Mathlib.Omega.{arith}
use lib.IntN.{ℤ}
use lib.ListN.{length, set, length-append, length-set}
use Rattle.rings.specs.Table.{Lent, gather, padded, valence_rows, ring_rows, point_rows}
use Rattle.rings.specs.Verdict.{refuse_if, and_then, after, with_amount}
use Rattle.rings.specs.Check.{bad_count, short_tables}
use Rattle.rings.specs.declared.Refusal.{Refusal}
use Rattle.rings.specs.declared.Refusal.TheVariants.{TableTooShort, VertexCount}
use Rattle.rings.proofs.Tables.{length_gather, length_padded}
use Rattle.rings.proofs.Verdicts.{if_hit, if_pass}
use Rattle.file_format.specs.Bytes.{number_at, coordinate_of, after_at}
use Rattle.file_format.specs.Blocks.{Put}
use Rattle.file_format.specs.Layout.{file_count, row_at, file_valence, file_ring, file_point, is_row, file_verdict}
use Rattle.file_format.specs.Judging.{Row}
use Rattle.file_reading.specs.Read.{read_verdict, read_answer, read_valences, read_rings, read_positions}
use Rattle.file_format.proofs.Blocks.{put_none, then, put_is, rows_next}
use Rattle.file_format.proofs.Judging.{row_is, rows_start, reached_next}
use Rattle.file_rings.proofs.RingRead.{one_is, length_ring, row_valence}
use Rattle.rings.specs.Refusal.{Amount, Verdict}
use Rattle.std.specs.Prelude.{Ok, Err}

-- ---- the point

pub point_is : (s : List ℕ) (v at axis k : ℕ) {z : ℤ} → at ≡ row_at s v → k ≡ at + 6 + axis * 4 → z ≡ coordinate_of (number_at s k 4) → z ≡ file_point s axis v
unfolding file_point
point_is s v at axis k e q p = p ∙ ap (λ (j : ℕ). coordinate_of (number_at s j 4)) (q ∙ ap (λ (j : ℕ). j + 6 + axis * 4) e)

pub three_is : {A : Type 0} {l : List A} {k : ℕ} {x y z p q r : A} → p ≡ x → q ≡ y → r ≡ z → k + 3 ≤ length l → Put l k (x ∷ y ∷ z ∷ []) (set (set (set l k p) (k + 1) q) (k + 2) r)
three_is {A} {l} {k} a b c h =
    then (then (one_is a (omega arith)) (one_is b (simp length-set (omega arith))) refl) (one_is c (simp length-set (omega arith))) refl

-- ---- all rows

-- row v is there: what reading it asks
pub row_of : (s : List ℕ) (v at n : ℕ) → is_row s (row_at s v) ≡ true → at ≡ row_at s v → n ≡ number_at s (at + 18) 2 → Row s v at n
unfolding file_valence
row_of s v at n g e p =
    let r = row_is s at (ap (is_row s) e ∙ g) in
    record { begins = e; valence = p; most = let m = r.most in omega arith; within = let f = r.fits in omega arith }

-- a row's bytes are there
pub row_fits : (s : List ℕ) (v at : ℕ) → is_row s (row_at s v) ≡ true → at ≡ row_at s v → at + 20 ≤ length s
row_fits s v at g e = let f = (row_is s (row_at s v) g).fits in omega arith

-- where the row behind it begins
pub row_after : (s : List ℕ) (v at n : ℕ) → is_row s (row_at s v) ≡ true → Row s v at n → at + (20 + 2 * n) ≡ after_at s at
row_after s v at n g r = omega (arith, (row_is s at (ap (is_row s) r.begins ∙ g)).next, r.valence)

-- the tables once the rows below v are read
pub record ReadTo (s : List ℕ) (t₀ : Lent) (ps₀ : List ℤ) (t : Lent) (ps : List ℤ) (at v : ℕ) : Type 0 where
  pub here : at ≡ row_at s v
  pub wide : length (ring_rows (file_ring s) v) ≡ v * 32
  pub put_v : Put t₀.valences 0 (valence_rows (file_ring s) v) t.valences
  pub put_r : Put t₀.rings 0 (ring_rows (file_ring s) v) t.rings
  pub put_p : Put ps₀ 0 (point_rows (file_point s) v) ps

pub read_none : (s : List ℕ) (t : Lent) (ps : List ℤ) {at : ℕ} → at ≡ after_at s 0 → ReadTo s t ps t ps at 0
unfolding valence_rows ring_rows point_rows
read_none s t ps e =
    record {
      here = e ∙ sym (rows_start s);
      wide = refl;
      put_v = put_none (omega arith);
      put_r = put_none (omega arith);
      put_p = put_none (omega arith);
    }

wide_next : (s : List ℕ) (v : ℕ) → length (ring_rows (file_ring s) v) ≡ v * 32 → length (file_ring s v) ≤ 32 → length (ring_rows (file_ring s) (v + 1)) ≡ (v + 1) * 32
unfolding ring_rows
wide_next s v e h =
    let f : ℕ → List ℕ = λ k. padded (file_ring s k) in
    let a : length (gather f (v + 1)) ≡ length (gather f v ++ f v) = rw add-one in
    a ∙ length-append (gather f v) (f v) ∙ omega (arith, length_padded (file_ring s v) h)

module _ {s : List ℕ} {t₀ : Lent} {ps₀ : List ℤ} {t : Lent} {ps : List ℤ} {t' : Lent} {ps' : List ℤ} {at next v n : ℕ} where
  pub read_next : ReadTo s t₀ ps₀ t ps at v → Row s v at n → Put t.valences v (n ∷ []) t'.valences → Put t.rings (v * 32) (padded (file_ring s v)) t'.rings
      → Put ps (v * 3) (file_point s 0 v ∷ file_point s 1 v ∷ file_point s 2 v ∷ []) ps' → next ≡ after_at s at → ReadTo s t₀ ps₀ t' ps' next (v + 1)
  unfolding valence_rows ring_rows point_rows
  read_next i r p q o e =
      let h : n ≡ length (file_ring s v) = row_valence r ∙ sym (length_ring s v) in
      record {
        here = reached_next s v at next i.here e;
        wide = wide_next s v i.wide (let m = r.most in omega arith);
        put_v = rows_next (λ k. length (file_ring s k) ∷ []) v i.put_v (put_is (ap (λ (k : ℕ). k ∷ []) h) p)
            (omega (arith, length_gather (λ k. length (file_ring s k) ∷ []) 1 (λ k. refl) v));
        put_r = rows_next (λ k. padded (file_ring s k)) v i.put_r q (let w = i.wide in omega arith);
        put_p = rows_next (λ k. file_point s 0 k ∷ file_point s 1 k ∷ file_point s 2 k ∷ []) v i.put_p o
            (omega (arith, length_gather (λ k. file_point s 0 k ∷ file_point s 1 k ∷ file_point s 2 k ∷ []) 3 (λ k. refl) v));
      }

-- ---- what each return of `read` shows

abbrev pub Shown : List ℕ → Lent → List ℤ → Amount → Lent → List ℤ → Type 0
Shown s t ps a t' ps' = (a ≡ read_answer s t ps) × ((t'.valences ≡ read_valences s t ps) × ((t'.rings ≡ read_rings s t ps) × (ps' ≡ read_positions s t ps)))

module _ (s : List ℕ) (t : Lent) (ps : List ℤ) where
  refused : (r : Refusal) → Err r ≡ read_verdict s t ps → Shown s t ps (Err r) t ps
  unfolding read_answer read_valences read_rings read_positions with_amount after
  refused r e = rw (← e) (refl, (refl, (refl, refl)))

  -- what is left of the verdict before each stage
  abbrev from1 : ℕ → Verdict
  from1 n = refuse_if (short_tables n t ps) TableTooShort (Ok tt)

  abbrev from2 : ℕ → Verdict
  from2 n = refuse_if (bad_count n) VertexCount (from1 n)

  pub read_broken : (r : Refusal) → Err r ≡ file_verdict s → Shown s t ps (Err r) t ps
  unfolding read_verdict and_then
  read_broken r e = refused r (rw (← e))

  module _ (e : (Ok tt) ≡ file_verdict s) (n : ℕ) (c : n ≡ number_at s 6 2) where
    past17 : from2 n ≡ read_verdict s t ps
    unfolding read_verdict and_then file_count
    past17 = rw (← e, c)

    module _ {b : Bool} (p : b ≡ bad_count n) where
      pub read_bad : b ≡ true → Shown s t ps (Err VertexCount) t ps
      read_bad o = refused VertexCount (if_hit (bad_count n) VertexCount (from1 n) b p o ∙ past17)

      module _ (o : b ≡ false) {d : Bool} (q : d ≡ short_tables n t ps) where
        past2 : from1 n ≡ read_verdict s t ps
        past2 = sym (if_pass (bad_count n) VertexCount (from1 n) b p o) ∙ past17

        pub read_short : d ≡ true → Shown s t ps (Err TableTooShort) t ps
        read_short h = refused TableTooShort (if_hit (short_tables n t ps) TableTooShort (Ok tt) d q h ∙ past2)

        pub read_done : d ≡ false → {t' : Lent} {ps' : List ℤ} → Put t.valences 0 (valence_rows (file_ring s) n) t'.valences → Put t.rings 0 (ring_rows (file_ring s) n) t'.rings
            → Put ps 0 (point_rows (file_point s) n) ps' → Shown s t ps (Ok n) t' ps'
        unfolding read_answer read_valences read_rings read_positions with_amount after file_count
        read_done h x y z =
            let v : (Ok tt) ≡ read_verdict s t ps = sym (if_pass (short_tables n t ps) TableTooShort (Ok tt) d q h) ∙ past2 in
            rw (← v, ← c) (refl, (x.is, (y.is, z.is)))
