-- For inside.
-- A new vertex's ring as the code hands it over. Assumes nothing.
use Rattle.std.specs.Prelude.{List, [], ◌∷◌, ℕ}
use Rattle.loop_rings.specs.declared.NewRing.{NewRing}

-- the places of a new vertex's ring
abbrev pub places_of : NewRing → List ℕ
places_of r = r.p ∷ r.pb ∷ r.qb ∷ r.q ∷ r.qa ∷ r.pa ∷ []
