-- Reading back what was written (document 02, order 4), in the lent tables: the text that an accepted writing leaves is accepted by
-- reading into any tables with room for V, which answers V and leaves the same points and the same rings, up to where each begins.
-- Assumes nothing.
use mathlib.Core.Path.{◌≡◌, sym, ap, ◌∙◌, subst}
use mathlib.Core.Bool.{false}
use mathlib.Core.List.{List}
use Prim.Native.Nat.{ℕ, ◌*◌, ◌≤◌, ◌<◌}
use native.Mathlib.Omega.{arith}
use lib.Dec.{ltb}
use lib.IntN.{ℤ, pos, negsuc, nat_abs}
use lib.ListN.{length}
use borrow.Author.Tests.{le-ltb}
use Rattle.mesh.specs.Limits.{most_units}
use Rattle.mesh.specs.Search.{sum}
use Rattle.mesh.specs.Ring.{times, ◌∈◌, Distinct, next, SameRound}
use Rattle.mesh.specs.Mesh.{Mesh, valences, edges, faces}
use Rattle.mesh.proofs.Lists.{sum_same, sum_times, sum_bounded}
use Rattle.mesh.proofs.SameRounds.{round_by_next}
use Rattle.mesh.proofs.Edges.{handshake}
use Rattle.mesh.proofs.Faces.{three_faces}
use Rattle.mesh.proofs.First.{or_both}
use Rattle.units.specs.Coordinate.{InRange, beyond}
use Rattle.rings.specs.Table.{Lent, lent, ring_of, rows, coordinate_at}
use Rattle.rings.specs.Verdict.{and_then, with_amount}
use Rattle.rings.specs.Check.{bad_count, short_tables, check_verdict}
use Rattle.rings.specs.Accepts.{Accepts}
use Rattle.rings.proofs.Rows.{rows_ring}
use Rattle.rings.proofs.Verdicts.{then_accepted, if_clear, at_clear}
use Rattle.rings.proofs.Accepted.{accepted_only}
use Rattle.off_rings.specs.Faces.{face_ring}
use Rattle.off_text.specs.Layout.{text_count, text_faces, text_face, text_point}
use Rattle.off_text.specs.ReadOff.{text_beyond, faces_verdict, read_off_verdict, read_off_answer, read_off_valences, read_off_rings, read_off_positions}
use Rattle.off_text.specs.WriteOff.{text, write_off_verdict}
use Rattle.off_text.proofs.NumbersRead.{Held}
use Rattle.off_text.proofs.WrittenTextReadsBack.{Writable, V_back, points_back, text_accepted, faces_taken, entries_back, rings_back}
use Rattle.off_text.proofs.ReadingIsChecked.{ring_read_lem, point_read}
use Rattle.rings.specs.Refusal.{Verdict}
use Rattle.std.specs.Prelude.{Ok}

then_both : (a b : Verdict) → a ≡ (Ok tt) → b ≡ (Ok tt) → and_then a b ≡ (Ok tt)
unfolding and_then
then_both a b p q = rw p q

in_held : (z : ℤ) → InRange z → Held z
in_held (pos n) h = omega arith
in_held (negsuc n) h = omega arith

module _ (n : ℕ) (t : Lent) (ps : List ℤ) (A : Accepts n t ps) where
  -- there are few faces and edges
  pub few : (3 * faces (rows n t) ≤ n * 32) × (2 * edges (rows n t) ≤ n * 32)
  unfolding rows valences
  few =
      let M : Mesh = rows n t in
      let S = A.sound in
      let b : sum (λ v. length (M.ring v)) n ≤ n * 32 = sum_bounded (λ v. length (M.ring v)) 32 n (λ v l. (S.proper v l).short) in
      let e = handshake M S.proper S.mutual' in
      let f = three_faces M S in
      (omega (arith, e, f, b), omega (arith, e, f, b))

  writable : Writable (rows n t) (coordinate_at ps)
  unfolding rows
  writable = record {
    sound = A.sound;
    vertices = omega (arith, A.high);
    few_faces = omega (arith, A.high, few);
    few_edges = omega (arith, A.high, few);
    held = λ v l axis a. in_held (coordinate_at ps axis v) (A.near v l axis a);
  }

module _ (n : ℕ) (t : Lent) (ps : List ℤ) (room : List ℕ) (h : write_off_verdict n t ps room ≡ (Ok tt)) where
  checked : check_verdict n t ps ≡ (Ok tt)
  unfolding write_off_verdict
  checked = (then_accepted (check_verdict n t ps) _ h).0

  W : Writable (rows n t) (coordinate_at ps)
  W = writable n t ps (accepted_only n t ps checked)

  -- into these tables, which have room for V
  module _ (t' : Lent) (ps' : List ℤ) (long : short_tables n t' ps' ≡ false) where
    count_back : text_count (text n t ps room) ≡ n
    unfolding rows
    count_back = V_back (rows n t) (coordinate_at ps) W

    near : (v : ℕ) → v < n → text_beyond (text n t ps room) v ≡ false
    unfolding text_beyond beyond rows
    near v l =
        let A = accepted_only n t ps checked in
        let b : (axis : ℕ) → axis < 3 → ltb most_units (nat_abs (text_point (text n t ps room) axis v)) ≡ false =
        λ axis a. le-ltb _ _ (subst (λ z. nat_abs z ≤ most_units) (sym (points_back (rows n t) (coordinate_at ps) W v l axis a)) (A.near v l axis a)) in
        or_both _ _ (b 0 (omega arith)) (or_both _ _ (b 1 (omega arith)) (b 2 (omega arith)))

    pub read_accepted : read_off_verdict (text n t ps room) t' ps' ≡ (Ok tt)
    unfolding faces_verdict read_off_verdict bad_count
    read_accepted =
        let y : List ℕ = text n t ps room in
        let A = accepted_only n t ps checked in
        let k = faces_taken (rows n t) (coordinate_at ps) W in
        then_both _ _ (text_accepted (rows n t) (coordinate_at ps) W)
        (if_clear _ _ _
        (or_both _ _ (le-ltb (text_count y) 4 (omega (arith, count_back, A.low))) (le-ltb 1024 (text_count y) (omega (arith, count_back, A.high))))
        ∙ if_clear _ _ _ (subst (λ m. short_tables m t' ps' ≡ false) (sym count_back) long)
        ∙ at_clear _ (text_count y) _ _ k.closes
        ∙ at_clear _ (text_count y) _ _ k.fits
        ∙ at_clear _ (text_count y) _ _ (λ v l. near v (subst (λ m. v < m) count_back l)))

    pub read_answers_V : read_off_answer (text n t ps room) t' ps' ≡ Ok n
    unfolding read_off_answer with_amount
    read_answers_V = rw read_accepted (ap Ok count_back)

    -- the points
    pub points_as_written : (v : ℕ) → v < n → (axis : ℕ) → axis < 3
        → coordinate_at (read_off_positions (text n t ps room) t' ps') axis v ≡ coordinate_at ps axis v
    unfolding rows
    points_as_written v l axis a =
        point_read (text n t ps room) t' ps' read_accepted v (subst (λ m. v < m) (sym count_back) l) axis a
        ∙ points_back (rows n t) (coordinate_at ps) W v l axis a

    -- the rings
    abbrev pub ring_read : ℕ → List ℕ
    ring_read v = ring_of (lent (read_off_valences (text n t ps room) t' ps') (read_off_rings (text n t ps room) t' ps')) v

    ring_is_read : (v : ℕ) → v < n
        → ring_read v ≡ face_ring (text_count (text n t ps room)) (text_faces (text n t ps room)) (text_face (text n t ps room)) v
    ring_is_read v l = ring_read_lem (text n t ps room) t' ps' read_accepted v (subst (λ m. v < m) (sym count_back) l)

    pub entries_as_written : (v : ℕ) → v < n → (x : ℕ) → times x (ring_read v) ≡ times x (ring_of t v)
    unfolding rows
    entries_as_written v l x =
        ap (times x) (ring_is_read v l) ∙ entries_back (rows n t) (coordinate_at ps) W v l x ∙ ap (times x) (rows_ring n t v l)

    pub next_as_written : (v : ℕ) → v < n → (x : ℕ) → x ∈ ring_of t v → next (ring_read v) x ≡ next (ring_of t v) x
    unfolding rows
    next_as_written v l x k =
        ap (λ r. next r x) (ring_is_read v l)
        ∙ rings_back (rows n t) (coordinate_at ps) W v l x (subst (λ r. x ∈ r) (sym (rows_ring n t v l)) k)
        ∙ ap (λ r. next r x) (rows_ring n t v l)

    -- the same ring, up to where it begins
    pub rings_as_written : (v : ℕ) → v < n → SameRound (ring_of t v) (ring_read v)
    unfolding rows
    rings_as_written v l =
        let p = (accepted_only n t ps checked).sound.proper v l in
        let e : (rows n t).ring v ≡ ring_of t v = rows_ring n t v l in
        let y = entries_as_written v l in
        let known : (x : ℕ) → x ∈ ring_of t v → x < n = λ x m. p.known x (subst (λ r. x ∈ r) (sym e) m) in
        let long : length (ring_read v) ≡ length (ring_of t v) =
        sym (sum_times n (ring_read v) (λ x m. known x (omega (arith, y x)))) ∙ sum_same _ _ n (λ x h. y x) ∙ sum_times n (ring_of t v) known in
        round_by_next (ring_of t v) (subst Distinct e p.distinct) (ring_read v) long y (next_as_written v l)
