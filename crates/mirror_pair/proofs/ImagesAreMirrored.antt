-- Each ring reversed and each x negated (document 02, order 3): a control mesh that the check accepts and its image are mirrored.
-- Assumes nothing.
use mathlib.Core.Path.{◌≡◌, refl, sym, ap, ◌∙◌}
use mathlib.Core.List.{List, reverse}
use mathlib.Core.Logic.{⊎_elim}
use Prim.Native.Nat.{ℕ, suc, ◌+◌, ◌*◌, ◌≤◌, ◌<◌}
use native.Mathlib.Nat.{zero-add, suc-mul, mul-le-mul_right}
use native.Mathlib.Omega.{arith}
use lib.Dec.{lit<}
use lib.IntN.{ℤ, pos}
use lib.ListN.{length, get_or, drop, length-reverse}
use lib.Seq.{ext_get_or, get_or-take, get_or-drop}
use borrow.Author.Tests.{lt-ltb}
use Rattle.mesh.proofs.Lists.{lt_split}
use Rattle.mesh.proofs.SameRounds.{same_round}
use Rattle.mirror.specs.Mirror.{mirror}
use Rattle.rings.specs.Table.{Lent, lent, valence_at, gather, put, ring_of, rows, padded, ring_rows, coordinate_at}
use Rattle.rings.specs.Check.{check_verdict}
use Rattle.rings.specs.Accepts.{HasRow, Accepts}
use Rattle.rings.proofs.Tables.{length_put, put_within, length_gather, gather_at, length_padded}
use Rattle.rings.proofs.Blocks.{padded_at}
use Rattle.rings.proofs.Rows.{row_length, room_row}
use Rattle.rings.proofs.Accepted.{accepted_only}
use Rattle.mirror_pair.specs.Pair.{MirroredTables, image_rings, image_point, image_positions}
use Rattle.std.specs.Prelude.{Ok}

-- a table whose first n blocks of k items are written
module _ {A : Type 0} (f : ℕ → List A) (k : ℕ) (even : (v : ℕ) → length (f v) ≡ k)
    (n : ℕ) (table : List A) (room : n * k ≤ length table) (d : A) where
  fits : 0 + length (gather f n) ≤ length table
  fits = let e = length_gather f k even n in omega arith

  blocks_long : length (put table 0 (gather f n)) ≡ length table
  blocks_long = length_put table 0 (gather f n) fits

  blocks_at : (v i : ℕ) → v < n → i < k → get_or (put table 0 (gather f n)) (v * k + i) d ≡ get_or (f v) i d
  blocks_at v i h g =
      ap (λ j. get_or (put table 0 (gather f n)) j d) (sym (zero-add (v * k + i)))
      ∙ put_within table 0 (gather f n) fits d (v * k + i) (before (length_gather f k even n))
      ∙ gather_at f k even n v i d h g
    where
      before : length (gather f n) ≡ n * k → v * k + i < length (gather f n)
      before e = let m : suc v * k ≤ n * k = mul-le-mul_right k h in omega (arith, suc-mul v k)

module _ (n : ℕ) (t : Lent) (ps : List ℤ) (accepted : check_verdict n t ps ≡ (Ok tt)) where
  a : Accepts n t ps
  a = accepted_only n t ps accepted

  -- the rings of the image
  abbrev image : ℕ → List ℕ
  image = (mirror (rows n t)).ring

  image_is : (v : ℕ) → v < n → image v ≡ reverse (ring_of t v)
  unfolding rows
  image_is v h = rw (lt-ltb v n h)

  row_long : (v : ℕ) → length (padded (image v)) ≡ 32
  unfolding rows
  row_long v =
      length_padded (image v)
      (⊎_elim
      (λ l. rw l.0 (rw (length-reverse (ring_of t v)) (let e = (a.sound.proper v l.1).short in rw l.0 at e)))
      (λ l. rw l.0 (omega arith))
      (lt_split v n))

  has_row : (v : ℕ) → v < n → HasRow t v
  has_row v h = room_row a.room h (a.most v h)

  rings_long : length (image_rings n t) ≡ length t.rings
  unfolding image_rings ring_rows
  rings_long = blocks_long (λ v. padded (image v)) 32 row_long n t.rings a.room.rings 0

  place_at : (v i : ℕ) → v < n → i < 32 → get_or (image_rings n t) (v * 32 + i) 0 ≡ get_or (padded (image v)) i 0
  unfolding image_rings ring_rows
  place_at v i h g = blocks_at (λ v. padded (image v)) 32 row_long n t.rings a.room.rings 0 v i h g

  -- row v of the image, place by place
  ring_reversed : (v : ℕ) → v < n → ring_of (lent t.valences (image_rings n t)) v ≡ reverse (ring_of t v)
  unfolding ring_of
  ring_reversed v h = ext_get_or 0 (ring_of (lent t.valences (image_rings n t)) v) (reverse (ring_of t v)) (long ∙ sym lengths) places
    where
      long : length (ring_of (lent t.valences (image_rings n t)) v) ≡ valence_at t v
      long = row_length (lent t.valences (image_rings n t)) v (record { valence = (has_row v h).valence; row = rw rings_long (has_row v h).row })

      lengths : length (reverse (ring_of t v)) ≡ valence_at t v
      lengths = length-reverse (ring_of t v) ∙ row_length t v (has_row v h)

      places : (i : ℕ) → i < length (ring_of (lent t.valences (image_rings n t)) v)
          → get_or (ring_of (lent t.valences (image_rings n t)) v) i 0 ≡ get_or (reverse (ring_of t v)) i 0
      places i g =
          let below : i < valence_at t v = rw long at g in
          let m = a.most v h in
          let inside : i < length (reverse (ring_of t v)) = omega (arith, lengths) in
          get_or-take (valence_at t v) (drop (v * 32) (image_rings n t)) i 0 below
          ∙ get_or-drop (v * 32) (image_rings n t) i 0
          ∙ place_at v i h (omega arith)
          ∙ ap (λ l. get_or (padded l) i 0) (image_is v h)
          ∙ padded_at (reverse (ring_of t v)) i inside

  point_at_lem : (axis v : ℕ) → axis < 3 → v < n → coordinate_at (image_positions n ps) axis v ≡ get_or (image_point ps v) axis (pos 0)
  unfolding image_positions coordinate_at
  point_at_lem axis v b h = blocks_at (image_point ps) 3 (λ v. refl) n ps a.points (pos 0) v axis h b

  points_long : length (image_positions n ps) ≡ length ps
  unfolding image_positions
  points_long = blocks_long (image_point ps) 3 (λ v. refl) n ps a.points (pos 0)

  -- the theorem
  pub image_is_mirrored : MirroredTables n t ps (lent t.valences (image_rings n t)) (image_positions n ps)
  image_is_mirrored = record {
    valences = refl;
    rings = rings_long;
    valence = λ v h. refl;
    ring = λ v h. same_round (reverse (ring_of t v)) (ring_of (lent t.valences (image_rings n t)) v) (ring_reversed v h);
    points = record {
      long = points_long;
      x = λ v h. point_at_lem 0 v (lit< tt) h;
      y = λ v h. point_at_lem 1 v (lit< tt) h;
      z = λ v h. point_at_lem 2 v (lit< tt) h;
    };
  }
