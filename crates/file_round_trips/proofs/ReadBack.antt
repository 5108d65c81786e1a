-- What was written and is read again is the same mesh: `read_back_lem`. Reading the bytes that an accepted writing put into the room, into tables that are long enough, is accepted with the same number
-- of vertices, and leaves the same valences, used places and coordinates. The entries are what 16-bit and 32-bit tables hold. Assumes nothing.
use Prim.Native.Nat.{ℕ, ◌+◌, ◌*◌, ◌≤◌, ◌<◌}
use mathlib.Core.Path.{◌≡◌, refl, sym, ap, ◌∙◌}
use mathlib.Core.Bool.{false}
use mathlib.Core.List.{List}
use native.Mathlib.Omega.{arith}
use borrow.Author.Tests.{ltb-false}
use lib.Dec.{ltb}
use lib.IntN.{ℤ, pos}
use lib.ListN.{length, get_or, take, drop}
use lib.Seq.{take_at, get_or-take, get_or-drop}
use mir.Syntax.{w32}
use mir.Val.{SFits}
use Rattle.mesh.specs.Limits.{place_bound}
use Rattle.rings.specs.Table.{Lent, lent, valence_at, ring_of, coordinate_at}
use Rattle.rings.specs.Verdict.{refuse_if, refuse_at, and_then, after, with_amount}
use Rattle.rings.specs.Check.{bad_count, short_tables}
use Rattle.rings.specs.declared.Refusal.TheVariants.{TableTooShort, VertexCount, RingImproper, NoRoom}
use Rattle.rings.proofs.Checks.{told_most, long_tables}
use Rattle.rings.proofs.Rows.{row_length}
use Rattle.rings.proofs.Verdicts.{if_accepted, at_accepted, if_clear}
use Rattle.file_format.specs.Layout.{file_count, file_ring, file_point}
use Rattle.file_reading.specs.Read.{read_verdict, read_answer, read_valences, read_rings, read_positions}
use Rattle.file_writing.specs.Write.{file_of, over_most, write_verdict, write_answer, write_room}
use Rattle.file_writing.specs.Storing.{Stored}
use Rattle.file_writing.proofs.RowsWritten.{stored_row}
use Rattle.file_format.proofs.Gathered.{put_front}
use Rattle.file_format.proofs.InTables.{answered, in_valence, in_ring, in_point}
use Rattle.file_round_trips.proofs.Written.{Storable, written_count, written_ring, written_point, written_good}
use Rattle.std.specs.Prelude.{Ok}

-- the same valences, used places and coordinates of n vertices
pub record Same (n : ℕ) (t : Lent) (ps : List ℤ) (t' : Lent) (ps' : List ℤ) : Type 0 where
  pub valences : (v : ℕ) → v < n → valence_at t' v ≡ valence_at t v
  pub rings : (v : ℕ) → v < n → ring_of t' v ≡ ring_of t v
  pub points : (v : ℕ) → v < n → (axis : ℕ) → axis < 3 → coordinate_at ps' axis v ≡ coordinate_at ps axis v

-- ---- what an accepted writing tells

module _ (n : ℕ) (t : Lent) (ps : List ℤ) (room : List ℕ) (w : write_verdict n t ps room ≡ (Ok tt)) where
  abbrev file : List ℕ
  file = file_of n (ring_of t) (coordinate_at ps)

  -- the stages
  past2 : (bad_count n ≡ false) × (refuse_if (short_tables n t ps) TableTooShort (refuse_at (over_most t.valences) n RingImproper (refuse_if (ltb (length room) (length file)) NoRoom (Ok tt))) ≡ (Ok tt))
  unfolding write_verdict
  past2 = if_accepted (bad_count n) VertexCount (refuse_if (short_tables n t ps) TableTooShort (refuse_at (over_most t.valences) n RingImproper (refuse_if (ltb (length room) (length file)) NoRoom (Ok tt)))) w

  pub written_fair : bad_count n ≡ false
  written_fair = past2.0

  pub written_stored : Stored n t ps
  written_stored =
      let a = if_accepted (short_tables n t ps) TableTooShort (refuse_at (over_most t.valences) n RingImproper (refuse_if (ltb (length room) (length file)) NoRoom (Ok tt))) past2.1 in
      let b = at_accepted (over_most t.valences) n RingImproper (refuse_if (ltb (length room) (length file)) NoRoom (Ok tt)) a.1 in
      let r = long_tables n t ps a.0 in
      record { room = r.0; points = r.1; most = λ v l. ltb-false 32 (valence_at t v) (b.0.below v l) }

  -- the bytes that were written, in front of the room's tail
  pub written_bytes : take (length file) (write_room n t ps room) ≡ file
  unfolding write_room after
  written_bytes = rw w (ap (take (length file)) (put_front room file) ∙ take_at file (drop (0 + length file) room) (length file) refl)

  module _ (near : (j : ℕ) → get_or t.rings j 0 < place_bound) (held : (j : ℕ) → SFits w32 (get_or ps j (pos 0))) where
    pub written_storable : Storable n (ring_of t) (coordinate_at ps)
    unfolding ring_of coordinate_at
    written_storable =
        let h = written_stored in
        record {
          few = omega (arith, told_most n false (sym written_fair) refl);
          most = λ v l. let e = row_length t v (stored_row h v l) in let m = h.most v l in omega arith;
          near = λ v l i k.
              let e = row_length t v (stored_row h v l) in
              let q = get_or-take (valence_at t v) (drop (v * 32) t.rings) i 0 (omega arith) in
              let r = get_or-drop (v * 32) t.rings i 0 in
              omega (arith, near (v * 32 + i));
          held = λ v l axis k. held (v * 3 + axis);
        }

-- ---- reading it

module _ (n : ℕ) (ring : ℕ → List ℕ) (point : ℕ → ℕ → ℤ) (ok : Storable n ring point) (fair : bad_count n ≡ false) (t : Lent) (ps : List ℤ) (long : short_tables n t ps ≡ false) where
  abbrev bytes : List ℕ
  bytes = file_of n ring point

  again_verdict : read_verdict bytes t ps ≡ (Ok tt)
  unfolding read_verdict and_then
  again_verdict =
      rw (written_good n ring point ok, written_count n ring point ok)
      (if_clear (bad_count n) VertexCount (refuse_if (short_tables n t ps) TableTooShort (Ok tt)) fair ∙ if_clear (short_tables n t ps) TableTooShort (Ok tt) long)

  again_answer : read_answer bytes t ps ≡ Ok n
  unfolding read_answer with_amount
  again_answer = rw again_verdict (ap Ok (written_count n ring point ok))

  most : (v : ℕ) → v < file_count bytes → length (file_ring bytes v) ≤ 32
  most v l = let c = written_count n ring point ok in let e = ap length (written_ring n ring point ok v (omega arith)) in let m = ok.most v (omega arith) in omega arith

  module _ (v : ℕ) (l : v < n) where
    below : v < file_count bytes
    below = let c = written_count n ring point ok in omega arith

    again_valence : get_or (read_valences bytes t ps) v 0 ≡ length (ring v)
    unfolding read_valences after
    again_valence = rw again_verdict (in_valence (file_count bytes) v below (file_ring bytes) most t ∙ ap length (written_ring n ring point ok v l))

    again_ring : ring_of (lent (read_valences bytes t ps) (read_rings bytes t ps)) v ≡ ring v
    unfolding read_valences read_rings after
    again_ring = rw again_verdict (in_ring (file_count bytes) v below (file_ring bytes) most t ∙ written_ring n ring point ok v l)

    again_point : (axis : ℕ) → axis < 3 → coordinate_at (read_positions bytes t ps) axis v ≡ point axis v
    unfolding read_positions after
    again_point axis h = rw again_verdict (in_point (file_count bytes) v below (file_point bytes) ps axis h ∙ written_point n ring point ok v l axis h)

module _ (n k : ℕ) (t : Lent) (ps : List ℤ) (room : List ℕ) (near : (j : ℕ) → get_or t.rings j 0 < place_bound) (held : (j : ℕ) → SFits w32 (get_or ps j (pos 0))) (w : write_answer n t ps room ≡ Ok k)
    (t' : Lent) (ps' : List ℤ) (long : short_tables n t' ps' ≡ false) where
  -- the bytes written
  abbrev written : List ℕ
  written = take k (write_room n t ps room)

  pub read_back_lem : (read_answer written t' ps' ≡ Ok n) × Same n t ps (lent (read_valences written t' ps') (read_rings written t' ps')) (read_positions written t' ps')
  unfolding write_answer
  read_back_lem =
      let (a, e) = answered (write_verdict n t ps room) (length (file_of n (ring_of t) (coordinate_at ps))) k w in
      let q : written ≡ file_of n (ring_of t) (coordinate_at ps) = ap (λ (j : ℕ). take j (write_room n t ps room)) (sym e) ∙ written_bytes n t ps room a in
      let s = written_storable n t ps room a near held in
      let f = written_fair n t ps room a in
      let z = written_stored n t ps room a in
      rw q (
        again_answer n (ring_of t) (coordinate_at ps) s f t' ps' long,
        record {
          valences = λ v l. again_valence n (ring_of t) (coordinate_at ps) s f t' ps' long v l ∙ row_length t v (stored_row z v l);
          rings = again_ring n (ring_of t) (coordinate_at ps) s f t' ps' long;
          points = again_point n (ring_of t) (coordinate_at ps) s f t' ps' long;
        },
      )
