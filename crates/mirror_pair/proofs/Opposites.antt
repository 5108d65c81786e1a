-- Opposite points by other names: tables that hold the same points are opposite too. Assumes nothing.
use mathlib.Core.Path.{◌≡◌, sym, ap, ◌∙◌}
use mathlib.Core.List.{List}
use Prim.Native.Nat.{ℕ, ◌<◌}
use lib.Dec.{lit<}
use lib.IntN.{ℤ, neg_ℤ}
use lib.ListN.{length}
use Rattle.rings.specs.Table.{coordinate_at}
use Rattle.mirror_pair.specs.Pair.{Opposite}

-- the first n points are the same in both tables
abbrev pub SamePoints : ℕ → List ℤ → List ℤ → Type 0
SamePoints n qs ps = (axis : ℕ) → axis < 3 → (v : ℕ) → v < n → coordinate_at qs axis v ≡ coordinate_at ps axis v

pub opposite_again : (n : ℕ) (ps ps' qs qs' : List ℤ) → length qs' ≡ length qs → SamePoints n qs ps → SamePoints n qs' ps'
    → Opposite n ps ps' → Opposite n qs qs'
opposite_again n ps ps' qs qs' long left right o = record {
  long = long;
  x = λ v h. right 0 (lit< tt) v h ∙ o.x v h ∙ ap neg_ℤ (sym (left 0 (lit< tt) v h));
  y = λ v h. right 1 (lit< tt) v h ∙ o.y v h ∙ sym (left 1 (lit< tt) v h);
  z = λ v h. right 2 (lit< tt) v h ∙ o.z v h ∙ sym (left 2 (lit< tt) v h);
}
