-- For inside.
-- What the functions that write the rings of a text rely on and promise.
-- Assumes nothing.
use Rattle.std.specs.Prelude.{◌≡◌, Bool, List, [], ◌∷◌, ℕ, ◌-◌, ◌*◌, ◌≤◌, ◌<◌, ltb, length, get_or}
use Rattle.mesh.specs.Limits.{most_count, most_valence}
use Rattle.rings.specs.Table.{Lent, padded}
use Rattle.rings.specs.Accepts.{Room}
use Rattle.file_format.specs.Blocks.{Put, gather_from}
use Rattle.off_rings.specs.Faces.{faces_at}
use Rattle.off_text.specs.Layout.{text_count, text_faces, text_face}
use Rattle.off_text.specs.ReadOff.{text_ring}
use Rattle.off_blocks.specs.Blocks.{Width, ahead}

-- row j has more entries than it is wide
abbrev pub over_at : ℕ → List ℕ → ℕ → Bool
over_at width counts j = ltb width (get_or counts j 0)

-- no row has more entries than it is wide
pub record Narrow (width rows : ℕ) (counts : List ℕ) : Type 0 where
  pub narrow : (j : ℕ) → j < rows → get_or counts j 0 ≤ width

module _ (s : List ℕ) where
  -- V is at most 1,024, no vertex has more than 32 faces, and the tables have rows for all
  pub record Fillable (count : ℕ) (t : Lent) : Type 0 where
    pub count_is : count ≡ text_count s
    pub few : count ≤ most_count
    pub most : (v : ℕ) → v < count → faces_at (text_count s) (text_faces s) (text_face s) v ≤ most_valence
    pub room : Room count t

  -- the valence of v, and its row
  abbrev pub valence_row : ℕ → List ℕ
  valence_row v = length (text_ring s v) ∷ []

  abbrev pub ring_row : ℕ → List ℕ
  ring_row v = padded (text_ring s v)

  -- the valences and rows of so many vertices were written, from vertex v on
  pub record Filled (v many : ℕ) (t t' : Lent) : Type 0 where
    pub valences : Put t.valences v (gather_from valence_row v many) t'.valences
    pub rings : Put t.rings (v * most_valence) (gather_from ring_row v many) t'.rings

  -- a block was written, and there is less ahead
  pub record Stepped (count at width at' width' : ℕ) (t t' : Lent) : Type 0 where
    pub wide : Width width'
    pub further : at ≤ at'
    pub within : at' ≤ count
    pub filled : Filled at (at' - at) t t'
    pub nearer : ahead count at' width' < ahead count at width
