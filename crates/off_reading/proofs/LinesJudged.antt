-- Reasons 21, 4 and 7 of a text whose lines are as they should be: the verdict by the vertices found, and what an accepted one leaves to write.
-- Assumes nothing.
use mathlib.Core.Path.{◌≡◌, sym, ap, ◌∙◌, subst}
use mathlib.Core.Bool.{false}
use mathlib.Core.List.{List}
use Prim.Native.Nat.{ℕ, ◌≤◌, ◌<◌}
use native.Mathlib.Nat.{le_antisymm}
use native.Mathlib.Omega.{arith}
use lib.Dec.{ltb}
use lib.IntN.{ℤ}
use lib.ListN.{replicate, length-replicate}
use borrow.Author.Tests.{ltb-false}
use Rattle.mesh.specs.Search.{first}
use Rattle.mesh.proofs.First.{first_same, first_le, first_clear, or_false}
use Rattle.rings.specs.Table.{Lent, put, valence_rows, ring_rows}
use Rattle.rings.specs.declared.Refusal.TheVariants.{OpenRing, RingImproper, ControlCoordinate}
use Rattle.rings.proofs.Verdicts.{at_hit, at_pass}
use Rattle.file_format.proofs.Gathered.{from_start}
use Rattle.off_rings.specs.Faces.{faces_at, twisted, unfit_faces}
use Rattle.off_rings.proofs.Turns.{twisted_open}
use Rattle.off_text.specs.Layout.{text_count, text_faces, text_face}
use Rattle.off_text.specs.ReadOff.{text_ring, faces_verdict, text_beyond}
use Rattle.off_gather.proofs.Rows.{fine_faces}
use Rattle.off_blocks.specs.Blocks.{Tables}
use Rattle.off_judge.specs.Judging.{open_at, Judged}
use Rattle.off_filling.specs.Filling.{Fillable, Filled}
use Rattle.off_reading.specs.Reading.{Lines}
use Rattle.std.specs.Prelude.{Ok, Err}

-- the tables of the function's own are as long as blocks need them
pub tables_long : Tables (replicate 128 0) (replicate 1024 0) (replicate 1024 0)
tables_long = record {
  counts_long = omega (arith, length-replicate {A = ℕ} 128 0);
  froms_long = omega (arith, length-replicate {A = ℕ} 1024 0);
  tos_long = omega (arith, length-replicate {A = ℕ} 1024 0);
}

module _ {s : List ℕ} {count faces points corners : ℕ} {t : Lent} {ps : List ℤ} (L : Lines s count faces points corners t ps) where
  module _ {opens fault : ℕ} (J : Judged s opens fault) where
    open_is : opens ≡ first (twisted (text_count s) (text_faces s) (text_face s)) (text_count s)
    open_is =
        J.open_is
        ∙ first_same (open_at s) (twisted (text_count s) (text_faces s) (text_face s)) (text_count s) (λ v h.
        sym (twisted_open (text_count s) (text_faces s) (text_face s) (fine_faces L.face_lines) v))

    pub open_refuses : opens < count → Err (OpenRing opens) ≡ faces_verdict s
    unfolding faces_verdict
    open_refuses h = at_hit _ _ _ _ _ open_is (omega (arith, L.count_is))

    module _ (o : count ≤ opens) where
      all_close : opens ≡ text_count s
      all_close = le_antisymm (omega (arith, J.open_is, first_le (open_at s) (text_count s))) (omega (arith, L.count_is))

      fault_is : fault ≡ first (unfit_faces (text_count s) (text_faces s) (text_face s)) (text_count s)
      fault_is = J.fault_is all_close

      pub unfit_refuses : fault < count → Err (RingImproper fault) ≡ faces_verdict s
      unfolding faces_verdict
      unfit_refuses h = at_hit _ _ _ _ _ fault_is (omega (arith, L.count_is)) ∙ sym (at_pass _ _ _ _ _ open_is (omega (arith, L.count_is)))

      module _ (u : count ≤ fault) where
        rest : {far : ℕ} → far ≡ first (text_beyond s) count → far ≡ first (text_beyond s) (text_count s)
        rest {far} e = subst (λ n. far ≡ first (text_beyond s) n) L.count_is e

        pub far_refuses : {far : ℕ} → far ≡ first (text_beyond s) count → far < count → Err (ControlCoordinate far) ≡ faces_verdict s
        unfolding faces_verdict
        far_refuses e h =
            at_hit _ _ _ _ _ (rest e) (omega (arith, L.count_is))
            ∙ sym (at_pass _ _ _ _ _ fault_is (omega (arith, L.count_is)))
            ∙ sym (at_pass _ _ _ _ _ open_is (omega (arith, L.count_is)))

        pub all_accepted : {far : ℕ} → far ≡ first (text_beyond s) count → count ≤ far → (Ok tt) ≡ faces_verdict s
        unfolding faces_verdict
        all_accepted e h =
            sym
            (at_pass _ _ _ _ _ open_is (omega (arith, L.count_is))
            ∙ at_pass _ _ _ _ _ fault_is (omega (arith, L.count_is))
            ∙ at_pass _ _ _ _ _ (rest e) (omega (arith, L.count_is)))

        -- no vertex has more than 32 faces
        pub fillable : Fillable s count t
        unfolding unfit_faces
        fillable = record {
          count_is = L.count_is;
          few = omega (arith, L.count_is, L.face_lines.few);
          most = λ v h. few_faces v (omega (arith, L.count_is));
          room = L.room;
        }
          where
            few_faces : (v : ℕ) → v < text_count s → faces_at (text_count s) (text_faces s) (text_face s) v ≤ 32
            few_faces v h =
                let c : unfit_faces (text_count s) (text_faces s) (text_face s) v ≡ false =
                (first_clear (unfit_faces (text_count s) (text_faces s) (text_face s)) (text_count s)).below v (omega (arith, fault_is, L.count_is)) in
                ltb-false 32 (faces_at (text_count s) (text_faces s) (text_face s) v) (or_false (ltb (faces_at (text_count s) (text_faces s) (text_face s) v) 3) _ c).1

-- what is written into the first rows
module _ (s : List ℕ) {count : ℕ} {t t' : Lent} (k : Filled s 0 count t t') where
  pub valences_written : t'.valences ≡ put t.valences 0 (valence_rows (text_ring s) count)
  unfolding valence_rows
  valences_written = k.valences.is ∙ ap (put t.valences 0) (from_start _ count)

  pub rings_written : t'.rings ≡ put t.rings 0 (ring_rows (text_ring s) count)
  unfolding ring_rows
  rings_written = k.rings.is ∙ ap (put t.rings 0) (from_start _ count)
