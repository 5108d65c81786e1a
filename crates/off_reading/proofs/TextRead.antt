-- What the judge of a text hands on, and the call's answer and tables by the verdict. Assumes nothing.
use mathlib.Core.Path.{◌≡◌, refl, sym, ap, ◌∙◌}
use mathlib.Core.Bool.{Bool, true, false, not}
use mathlib.Core.List.{List}
use Prim.Native.Nat.{ℕ, ◌≤◌, ◌<◌}
use native.Mathlib.Omega.{arith}
use lib.IntN.{ℤ}
use borrow.Author.Tests.{not-false}
use Rattle.std.specs.Prelude.{Ok, Err}
use Rattle.mesh.proofs.First.{Clear}
use Rattle.rings.specs.Table.{Lent, put, valence_rows, ring_rows, point_rows}
use Rattle.rings.specs.Verdict.{and_then, after, with_amount}
use Rattle.rings.specs.Check.{bad_count, short_tables}
use Rattle.rings.specs.declared.Refusal.{Refusal}
use Rattle.rings.specs.declared.Refusal.TheVariants.{TableTooShort, VertexCount}
use Rattle.rings.proofs.Verdicts.{if_hit, if_pass, if_accepted, at_accepted}
use Rattle.rings.proofs.Checks.{told_most, long_tables}
use Rattle.off_text.specs.Layout.{is_counts, text_count, text_faces, vertex_at, face_line_at, text_point, text_verdict}
use Rattle.off_text.specs.ReadOff.{text_ring, faces_verdict, read_off_verdict, read_off_answer, read_off_valences, read_off_rings, read_off_positions}
use Rattle.off_layout.specs.declared.Text.{Text}
use Rattle.off_layout.specs.Judging.{with_text, judged_text}
use Rattle.off_layout.proofs.Judged.{counts_within}
use Rattle.off_layout.proofs.Reaching.{bad_vertex, bad_line}
use Rattle.off_reading.specs.Reading.{Lines}
use Rattle.rings.specs.Refusal.{Amount, Verdict}

-- ---- what the judge hands on

-- a text that is as it should be: V, F, and where the vertices and the faces begin
pub record Whole (s : List ℕ) (count faces points corners : ℕ) : Type 0 where
  pub accepted : text_verdict s ≡ (Ok tt)
  pub count_is : count ≡ text_count s
  pub faces_is : faces ≡ text_faces s
  pub points_is : points ≡ vertex_at s 0
  pub corners_is : corners ≡ face_line_at s 0

module _ (s : List ℕ) where
  pub whole_told : (t : Text) → judged_text s ≡ Ok t → Whole s t.count t.faces t.points t.corners
  unfolding judged_text with_text
  whole_told t h = go (text_verdict s) refl h
    where
      go : (w : Verdict) → text_verdict s ≡ w → with_text s w ≡ Ok t → Whole s t.count t.faces t.points t.corners
      go (Ok u) e g =
          let k : t ≡ record { count = text_count s; faces = text_faces s; points = vertex_at s 0; corners = face_line_at s 0 } = cc in
          record { accepted = e; count_is = ap (λ (x : Text). x.count) k; faces_is = ap (λ (x : Text). x.faces) k; points_is = ap (λ (x : Text). x.points) k; corners_is = ap (λ (x : Text). x.corners) k }
      go (Err r) e g = absurd (let z : ◌≡◌ {A = ℕ} 0 1 = cc in omega arith)

  pub refusal_told : (r : Refusal) → judged_text s ≡ Err r → text_verdict s ≡ Err r
  unfolding judged_text with_text
  refusal_told r h = go (text_verdict s) refl h
    where
      go : (w : Verdict) → text_verdict s ≡ w → with_text s w ≡ Err r → text_verdict s ≡ Err r
      go (Ok u) e g = absurd (let z : ◌≡◌ {A = ℕ} 0 1 = cc in omega arith)
      go (Err q) e g = let k : q ≡ r = cc in e ∙ ap Err k

  -- its lines
  module _ (a : text_verdict s ≡ (Ok tt)) where
    stages : (is_counts s ≡ true) × (Clear (bad_vertex s) (text_count s) × Clear (bad_line s) (text_faces s))
    unfolding text_verdict
    stages =
        let w = if_accepted _ _ _ a in
        let c = if_accepted (not (is_counts s)) _ _ w.1 in
        let v = at_accepted (bad_vertex s) (text_count s) _ _ c.1 in
        let f = at_accepted (bad_line s) (text_faces s) _ _ v.1 in
        (not-false (is_counts s) c.0, (v.0, f.0))

    few_faces : text_faces s < 4294967296
    few_faces = (counts_within s stages.0).1.0

module _ {s : List ℕ} {count faces points corners : ℕ} (T : Whole s count faces points corners) where
  lines_good : {t : Lent} {ps : List ℤ} → count ≤ 1024 → short_tables count t ps ≡ false → Lines s count faces points corners t ps
  lines_good {t} {ps} few long =
      let g = stages s T.accepted in
      let r = long_tables count t ps long in
      record {
        count_is = T.count_is;
        vertex_lines = record { begins = T.points_is; good = λ v h. not-false _ (g.1.0.below v (omega (arith, T.count_is))) };
        face_lines = record {
          all = T.faces_is;
          begins = T.corners_is;
          number = omega (arith, few_faces s T.accepted, T.faces_is);
          few = omega (arith, T.count_is);
          good = λ i h. not-false _ (g.1.1.below i (omega (arith, T.faces_is)));
        };
        room = r.0;
        points_room = r.1;
      }

-- ---- the call

module _ (s : List ℕ) (t : Lent) (ps : List ℤ) where
  -- the answer and the tables, as the call leaves them
  abbrev pub Left : Amount → Lent → List ℤ → Type 0
  Left answer t' ps' =
      (answer ≡ read_off_answer s t ps)
      × ((t'.valences ≡ read_off_valences s t ps) × ((t'.rings ≡ read_off_rings s t ps) × (ps' ≡ read_off_positions s t ps)))

  refused : (r : Refusal) → read_off_verdict s t ps ≡ Err r → Left (Err r) t ps
  unfolding read_off_answer read_off_valences read_off_rings read_off_positions with_amount after
  refused r v = (rw v, (rw v, (rw v, rw v)))

  pub text_refused : (r : Refusal) → text_verdict s ≡ Err r → Left (Err r) t ps
  unfolding read_off_verdict and_then
  text_refused r e = refused r (rw e)

  module _ {count faces points corners : ℕ} (T : Whole s count faces points corners) where
    pub count_refused : (b : Bool) → b ≡ bad_count count → b ≡ true → Left (Err VertexCount) t ps
    unfolding read_off_verdict and_then
    count_refused b e h = refused VertexCount (rw T.accepted (sym (if_hit _ _ _ b (e ∙ ap bad_count T.count_is) h)))

    module _ (b : Bool) (e : b ≡ bad_count count) (h : b ≡ false) where
      pub short_refused : (l : Bool) → l ≡ short_tables count t ps → l ≡ true → Left (Err TableTooShort) t ps
      unfolding read_off_verdict and_then
      short_refused l d g =
          refused TableTooShort
          (rw T.accepted
          (if_pass _ _ _ b (e ∙ ap bad_count T.count_is) h ∙ sym (if_hit _ _ _ l (d ∙ ap (λ n. short_tables n t ps) T.count_is) g)))

      module _ (l : Bool) (d : l ≡ short_tables count t ps) (g : l ≡ false) where
        pub lines_known : Lines s count faces points corners t ps
        lines_known = lines_good T (told_most count b e h) (sym d ∙ g)

        rest : read_off_verdict s t ps ≡ faces_verdict s
        unfolding read_off_verdict and_then
        rest =
            rw T.accepted
            (if_pass _ _ _ b (e ∙ ap bad_count T.count_is) h ∙ if_pass _ _ _ l (d ∙ ap (λ n. short_tables n t ps) T.count_is) g)

        -- where the lines are refused, and where they are accepted
        module _ {w : Verdict} (is : w ≡ faces_verdict s) {t' : Lent} {ps' : List ℤ}
            (v-is : t'.valences ≡ after w (put t.valences 0 (valence_rows (text_ring s) count)) t.valences)
            (r-is : t'.rings ≡ after w (put t.rings 0 (ring_rows (text_ring s) count)) t.rings)
            (p_is : ps' ≡ after w (put ps 0 (point_rows (text_point s) count)) ps) where
          pub lines_refused : (r : Refusal) → w ≡ Err r → Left (Err r) t' ps'
          unfolding after
          lines_refused r q =
              let k = refused r (rest ∙ sym is ∙ q) in
              (k.0, (v-is ∙ rw q k.1.0, (r-is ∙ rw q k.1.1.0, p_is ∙ rw q k.1.1.1)))

          pub lines_accepted : w ≡ (Ok tt) → Left (Ok count) t' ps'
          unfolding read_off_answer read_off_valences read_off_rings read_off_positions with_amount after
          lines_accepted q =
              let v : read_off_verdict s t ps ≡ (Ok tt) = rest ∙ sym is ∙ q in
              let n = T.count_is in (
                rw v (ap Ok n),
                (
                  v-is ∙ rw (q, v) (ap (λ k. put t.valences 0 (valence_rows (text_ring s) k)) n),
                  (
                    r-is ∙ rw (q, v) (ap (λ k. put t.rings 0 (ring_rows (text_ring s) k)) n),
                    p_is ∙ rw (q, v) (ap (λ k. put ps 0 (point_rows (text_point s) k)) n),
                  ),
                ),
              )
