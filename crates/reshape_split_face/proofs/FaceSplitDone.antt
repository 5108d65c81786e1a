-- A split of a face: what is refused, and what an accepted one may write, so that it answers and leaves what the call promises.
-- Assumes nothing.
use mathlib.Core.Path.{◌≡◌, sym}
use mathlib.Core.List.{List, [], ◌∷◌}
use Prim.Native.Nat.{ℕ}
use lib.IntN.{ℤ}
use Rattle.rings.specs.Table.{Lent, ring_of}
use Rattle.rings.specs.Accepts.{Accepts}
use Rattle.rings.specs.declared.Refusal.{Refusal}
use Rattle.reshape.specs.Reshape.{face_rows_of}
use Rattle.reshape_tables.specs.Calls.{split_face_verdict, face_splitting, reshape_answer, reshaped_valences, reshaped_rings, reshaped_positions}
use Rattle.reshape_tables.proofs.Judged.{FaceThere, NewRow, face_split_judged}
use Rattle.reshape_tables.proofs.ReshapedTablesPassTheCheck.{face_split_passes}
use Rattle.reshape_tables.proofs.CallsAnswered.{SplitDone, split_refused}
use Rattle.reshape_rows.specs.RowsReady.{FaceReady}
use Rattle.reshape_rows.proofs.JudgedReady.{NewPlace, new_place, face_ready, face_rows_lem}
use Rattle.reshape_face.specs.Judged.{with_face}
use Rattle.reshape_face.specs.declared.Face.{Face}
use Rattle.reshape_face.proofs.FacesJudged.{FaceTold, face_told, refusal_told}
use Rattle.std.specs.Prelude.{Ok, Err}

module _ (n : ℕ) (t : Lent) (ps : List ℤ) (u v w : ℕ) where
  pub face_refused : {r : Refusal} → Err r ≡ with_face (split_face_verdict n t ps u v w) u v w
      → let e = face_splitting n t ps u v w in
      (Err r ≡ reshape_answer e) × ((t.rings ≡ reshaped_rings e t.rings) × ((t.valences ≡ reshaped_valences e t.valences) × (ps ≡ reshaped_positions e n ps)))
  unfolding face_splitting
  face_refused h = split_refused (face_splitting n t ps u v w) (refusal_told (split_face_verdict n t ps u v w) u v w h) n t ps

  -- the face that was handed on
  module _ {f : Face} (h : Ok f ≡ with_face (split_face_verdict n t ps u v w) u v w) where
    told : FaceTold (split_face_verdict n t ps u v w) u v w f
    told = face_told (split_face_verdict n t ps u v w) u v w h

    judged : Accepts n t ps × FaceThere n t u v w × NewRow n t ps
    judged = face_split_judged n t ps u v w (sym told.accepts)

    pub face_splittable : FaceReady n t f.u f.v f.w
    face_splittable = face_ready judged.0 judged.1 told.one told.two told.three

    pub face_place : NewPlace n t ps
    face_place = new_place judged.0 judged.2

    pub face_split : SplitDone (face_splitting n t ps u v w) n t ps (face_rows_of (ring_of t) f.u f.v f.w n) (f.u ∷ f.v ∷ f.w ∷ [])
    unfolding face_splitting
    face_split = record {
      accepts = told.accepts;
      rows_are = face_rows_lem judged.0 judged.1 told.one told.two told.three;
      between_are = rw (told.one, told.two, told.three);
      passes = face_split_passes n t ps u v w (sym told.accepts);
    }
