-- For inside.
-- What the judge of a text's vertices has shown so far, and what it answers.
-- Assumes nothing.
use Rattle.std.specs.Prelude.{◌≡◌, Bool, true, false, cond, not, ◌||◌, List, ℕ, ◌+◌, ◌≤◌, ◌<◌, ltb, get_or}
use Rattle.mesh.specs.Limits.{least_valence, most_valence}
use Rattle.mesh.specs.Search.{first, some}
use Rattle.off_rings.specs.Faces.{faces_at, closed, unfit_faces}
use Rattle.off_text.specs.Layout.{text_count, text_faces, text_face}
use Rattle.off_blocks.specs.Blocks.{Width, ahead}

-- a valence under 3 or over 32 stands at a place of the counts
abbrev pub unfit_at : List ℕ → ℕ → Bool
unfit_at counts j = ltb (get_or counts j 0) least_valence || ltb most_valence (get_or counts j 0)

-- the first unfit vertex: the one known, or that of the first unfit row, the rows being those from vertex v on, or the number of vertices
unfoldable pub unfit_from : List ℕ → ℕ → ℕ → ℕ → ℕ → ℕ
unfit_from counts v rows known count =
    cond (ltb known count) known (cond (some (unfit_at counts) rows) (v + first (unfit_at counts) rows) count)

module _ (s : List ℕ) where
  -- the faces of v do not close into one ring
  abbrev pub open_at : ℕ → Bool
  open_at v = not (closed (text_count s) (text_faces s) (text_face s) v)

  -- the valence of v is under 3 or over 32
  abbrev pub unfit : ℕ → Bool
  unfit v = unfit_faces (text_count s) (text_faces s) (text_face s) v

  -- row j of a block stops it: its vertex has more faces than the row is wide, or they do not close
  abbrev pub stops : ℕ → ℕ → ℕ → Bool
  stops width first j = ltb width (faces_at (text_count s) (text_faces s) (text_face s) (first + j)) || open_at (first + j)

  -- the vertices below `at` close, and `fault` is the first of them that is unfit, or V where there is none
  pub record Sofar (at width fault : ℕ) : Type 0 where
    pub wide : Width width
    pub within : at ≤ text_count s
    pub closed_below : (v : ℕ) → v < at → open_at v ≡ false
    pub fit_below : (v : ℕ) → v < at → v < fault → unfit v ≡ false
    pub fault_below : fault < text_count s → fault < at
    pub fault_is : fault < text_count s → unfit fault ≡ true
    pub fault_within : fault ≤ text_count s

  -- a block was judged, and there is less ahead
  pub record Stepped (at width at' width' fault' : ℕ) : Type 0 where
    pub sofar : Sofar at' width' fault'
    pub nearer : ahead (text_count s) at' width' < ahead (text_count s) at width

  -- a block stopped: the vertex that comes next does not close
  pub record Stopped (at width fault : ℕ) : Type 0 where
    pub sofar : Sofar at width fault
    pub below : at < text_count s
    pub opens_at : open_at at ≡ true

  -- the first vertex that does not close, or V; and where all do, the first that is unfit, or V
  pub record Judged (opens fault : ℕ) : Type 0 where
    pub open_is : opens ≡ first open_at (text_count s)
    pub fault_is : opens ≡ text_count s → fault ≡ first unfit (text_count s)
