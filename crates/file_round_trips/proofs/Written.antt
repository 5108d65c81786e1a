-- A file of the grammar has the layout that reading expects, and its rows are those it was made of. Assumes nothing.
use Prim.Native.Nat.{ℕ, zero, suc, ◌+◌, ◌*◌, ◌≤◌, ◌<◌}
use mathlib.Core.Path.{◌≡◌, refl, sym, ap, ◌∙◌}
use mathlib.Core.Bool.{true, not}
use mathlib.Core.List.{List, [], ◌∷◌, ◌++◌, append_assoc}
use native.Mathlib.Omega.{arith}
use borrow.Author.Tests.{le-ltb, le-leb}
use lib.Dec.{ltb}
use lib.IntN.{ℤ}
use lib.ListN.{length, get_or, take, drop, length-append}
use lib.Seq.{drop_at, drop-drop}
use mir.Syntax.{w32}
use mir.Val.{SFits}
use Rattle.mesh.specs.Limits.{place_bound}
use Rattle.mesh.proofs.Lists.{climbs}
use Rattle.rings.specs.Table.{gather}
use Rattle.rings.specs.declared.Refusal.TheVariants.{FileLayout}
use Rattle.rings.proofs.Verdicts.{if_clear, at_clear}
use Rattle.file_format.specs.Bytes.{bytes_of, number_of, bits_of, coordinate_of, record_of, number_at, length_at, kind_at, after_at}
use Rattle.file_format.specs.Layout.{file_count, row_at, file_valence, file_ring, file_point, record_at, is_first, is_row, is_last, file_verdict}
use Rattle.file_format.specs.Judging.{no_row}
use Rattle.file_rings.specs.Neighbours.{neighbour_bytes}
use Rattle.file_writing.specs.Write.{payload_of, row_bytes, file_of}
use Rattle.file_format.proofs.Signed.{bits_lt, coordinate_bits}
use Rattle.file_format.proofs.Finding.{record_is}
use Rattle.file_format.proofs.Judging.{last, tail, all}
use Rattle.file_rings.proofs.RingWritten.{length_neighbour_bytes}
use Rattle.file_writing.proofs.RowsWritten.{length_payload, length_row, length_file, length_rows}
use Rattle.file_format.proofs.Gathered.{gather_split, gather_drop, gather_all}
use Rattle.rings.proofs.Tables.{gather_same}
use Rattle.file_round_trips.proofs.Inverse.{number_bytes_two, number_bytes_four, number_from, number_here}
use Rattle.std.specs.Prelude.{Ok}

-- what a file can hold: at most 65,535 rows of at most 32 neighbours, in 16 bits each, with coordinates in 32 bits
pub record Storable (n : ℕ) (ring : ℕ → List ℕ) (point : ℕ → ℕ → ℤ) : Type 0 where
  pub few : n < 65536
  pub most : (v : ℕ) → v < n → length (ring v) ≤ 32
  pub near : (v : ℕ) → v < n → (i : ℕ) → i < length (ring v) → get_or (ring v) i 0 < place_bound
  pub held : (v : ℕ) → v < n → (axis : ℕ) → axis < 3 → SFits w32 (point axis v)

-- ---- a row, in a file that has it at a place

module _ (s : List ℕ) (at : ℕ) (ring : List ℕ) (point : ℕ → ℤ) (rest : List ℕ) (here : drop at s ≡ record_of 2 (payload_of ring point) ++ rest) (most : length ring ≤ 32) where
  at_kind : kind_at s at ≡ 2
  unfolding kind_at record_of
  at_kind = number_from s (record_of 2 (payload_of ring point) ++ rest) at 4 2 here

  at_length : length_at s at ≡ 14 + 2 * length ring
  unfolding length_at record_of
  at_length =
      let e = length_payload ring point in
      number_here s (record_of 2 (payload_of ring point) ++ rest) at 4 here ∙ number_bytes_four (length (payload_of ring point)) (omega arith) ∙ e

  pub at_valence : file_valence s at ≡ length ring
  unfolding file_valence record_of payload_of
  at_valence = number_from s (record_of 2 (payload_of ring point) ++ rest) at 18 2 here ∙ number_bytes_two (length ring) (omega arith)

  pub at_row : at + (20 + 2 * length ring) ≤ length s → is_row s at ≡ true
  unfolding is_row
  at_row h =
      let v = at_valence in
      let l = at_length in
      rw (record_is s at 2 (14 + 2 * file_valence s at) at_kind (omega arith) (omega arith)) (le-leb (file_valence s at) 32 (omega arith))

  pub at_after : after_at s at ≡ at + (20 + 2 * length ring)
  unfolding after_at
  at_after = let l = at_length in omega arith

  -- one coordinate, j bytes behind the place
  at_coordinate : (axis j : ℕ) → SFits w32 (point axis) → number_of (take 4 (drop j (record_of 2 (payload_of ring point) ++ rest))) ≡ number_of (bytes_of 4 (bits_of (point axis)))
      → coordinate_of (number_at s (at + j) 4) ≡ point axis
  at_coordinate axis j w e =
      ap coordinate_of (number_from s (record_of 2 (payload_of ring point) ++ rest) at j 4 here ∙ e ∙ number_bytes_four (bits_of (point axis)) (bits_lt (point axis) w)) ∙ coordinate_bits (point axis) w

  pub at_point : (axis : ℕ) → axis < 3 → SFits w32 (point axis) → coordinate_of (number_at s (at + 6 + axis * 4) 4) ≡ point axis
  unfolding record_of payload_of
  at_point zero l w = let e : at + 6 + 0 * 4 ≡ at + 6 = omega arith in ap (λ (k : ℕ). coordinate_of (number_at s k 4)) e ∙ at_coordinate 0 6 w refl
  at_point (suc zero) l w = let e : at + 6 + 1 * 4 ≡ at + 10 = omega arith in ap (λ (k : ℕ). coordinate_of (number_at s k 4)) e ∙ at_coordinate 1 10 w refl
  at_point (suc (suc zero)) l w = let e : at + 6 + 2 * 4 ≡ at + 14 = omega arith in ap (λ (k : ℕ). coordinate_of (number_at s k 4)) e ∙ at_coordinate 2 14 w refl
  at_point (suc (suc (suc axis))) l w = absurd (omega arith)

  -- neighbour i
  head : List ℕ
  head = bytes_of 4 (length (payload_of ring point)) ++ (bytes_of 2 2 ++ (bytes_of 4 (bits_of (point 0)) ++ (bytes_of 4 (bits_of (point 1)) ++ (bytes_of 4 (bits_of (point 2)) ++ bytes_of 2 (length ring)))))

  parts : record_of 2 (payload_of ring point) ++ rest ≡ head ++ (gather (neighbour_bytes ring) (length ring) ++ rest)
  unfolding record_of payload_of head
  parts = refl

  at_neighbour : (i : ℕ) → i < length ring → get_or ring i 0 < place_bound → number_at s (at + 20 + i * 2) 2 ≡ get_or ring i 0
  unfolding head
  at_neighbour i l w =
      let nb = neighbour_bytes ring in
      let (m, q) = gather_drop nb i (length ring) (i * 2) rest l (sym (length_neighbour_bytes ring i)) in
      let e : drop (at + 20) s ≡ gather nb (length ring) ++ rest =
      sym (drop-drop 20 at s) ∙ ap (drop 20) (here ∙ parts) ∙ drop_at head (gather nb (length ring) ++ rest) 20 refl in
      number_from s (gather nb (length ring) ++ rest) (at + 20) (i * 2) 2 e ∙ ap (λ (x : List ℕ). number_of (take 2 x)) q ∙ number_bytes_two (get_or ring i 0) w

  pub at_ring : ((i : ℕ) → i < length ring → get_or ring i 0 < place_bound) → gather (λ i. number_at s (at + 20 + i * 2) 2 ∷ []) (file_valence s at) ≡ ring
  at_ring w =
      ap (gather (λ i. number_at s (at + 20 + i * 2) 2 ∷ [])) at_valence
      ∙ gather_same (λ i. number_at s (at + 20 + i * 2) 2 ∷ []) (λ i. get_or ring i 0 ∷ []) (length ring) (λ i l. ap (λ (x : ℕ). x ∷ []) (at_neighbour i l (w i l)))
      ∙ gather_all ring 0

-- ---- the file

module _ (n : ℕ) (ring : ℕ → List ℕ) (point : ℕ → ℕ → ℤ) (ok : Storable n ring point) where
  abbrev file : List ℕ
  file = file_of n ring point

  -- the place of row v
  place : ℕ → ℕ
  place v = 8 + length (gather (row_bytes ring point) v)

  placed : (v : ℕ) → v < n → (rest : List ℕ) × (drop (place v) file ≡ row_bytes ring point v ++ rest)
  unfolding file_of record_of place
  placed v l =
      let rows = row_bytes ring point in
      let (m, q) = gather_split rows v n l in
      let first = bytes_of 4 2 ++ (bytes_of 2 1 ++ bytes_of 2 n) in
      let e : file ≡ (first ++ gather rows v) ++ (rows v ++ (m ++ record_of 3 [])) = ap (λ (x : List ℕ). first ++ (x ++ record_of 3 [])) q ∙ simp append_assoc in
      (m ++ record_of 3 [], ap (drop (8 + length (gather rows v))) e ∙ drop_at (first ++ gather rows v) (rows v ++ (m ++ record_of 3 [])) (8 + length (gather rows v)) (omega arith))

  last_placed : drop (place n) file ≡ record_of 3 []
  unfolding file_of record_of place
  last_placed =
      let rows = row_bytes ring point in
      let first = bytes_of 4 2 ++ (bytes_of 2 1 ++ bytes_of 2 n) in
      let e : file ≡ (first ++ gather rows n) ++ record_of 3 [] = simp append_assoc in
      ap (drop (8 + length (gather rows n))) e ∙ drop_at (first ++ gather rows n) (record_of 3 []) (8 + length (gather rows n)) (omega arith)

  place_zero : place 0 ≡ 8
  unfolding place
  place_zero = refl

  place_suc : (v : ℕ) → place (suc v) ≡ place v + (20 + 2 * length (ring v))
  unfolding place
  place_suc v = omega (arith, length-append (gather (row_bytes ring point) v) (row_bytes ring point v), length_row ring point v)

  place_end : length file ≡ place n + 6
  unfolding place
  place_end = omega (arith, length_file n ring point, length_rows ring point n)

  place_up : (v m : ℕ) → v ≤ m → place v ≤ place m
  place_up v m h = climbs place (λ i. omega (arith, place_suc i)) v m h

  room : (v : ℕ) → v < n → place v + (20 + 2 * length (ring v)) ≤ length file
  room v l = omega (arith, place_suc v, place_up (suc v) n l, place_end)

  pub written_count : file_count file ≡ n
  unfolding file_count file_of record_of
  written_count = number_here file _ 6 2 refl ∙ number_bytes_two n ok.few

  first_length : length_at file 0 ≡ 2
  unfolding length_at file_of record_of
  first_length = number_here file _ 0 4 refl

  first_kind : kind_at file 0 ≡ 1
  unfolding kind_at file_of record_of
  first_kind = number_here file _ 4 2 refl

  written_at : (v : ℕ) → v ≤ n → row_at file v ≡ place v
  unfolding row_at after_at
  written_at zero l = let e = first_length in let p = place_zero in omega arith
  written_at (suc v) l =
      let h : v < n = omega arith in
      let (rest, e) = placed v h in
      ap (after_at file) (written_at v (omega arith)) ∙ at_after file (place v) (ring v) (λ axis. point axis v) rest e (ok.most v h) ∙ sym (place_suc v)

  pub written_ring : (v : ℕ) → v < n → file_ring file v ≡ ring v
  unfolding file_ring
  written_ring v l =
      let (rest, e) = placed v l in
      ap (λ (k : ℕ). gather (λ i. number_at file (k + 20 + i * 2) 2 ∷ []) (file_valence file k)) (written_at v (omega arith))
      ∙ at_ring file (place v) (ring v) (λ axis. point axis v) rest e (ok.most v l) (ok.near v l)

  pub written_point : (v : ℕ) → v < n → (axis : ℕ) → axis < 3 → file_point file axis v ≡ point axis v
  unfolding file_point
  written_point v l axis h =
      let (rest, e) = placed v l in
      ap (λ (k : ℕ). coordinate_of (number_at file (k + 6 + axis * 4) 4)) (written_at v (omega arith))
      ∙ at_point file (place v) (ring v) (λ a. point a v) rest e (ok.most v l) axis h (ok.held v l axis h)

  written_row : (v : ℕ) → v < n → is_row file (row_at file v) ≡ true
  written_row v l =
      let (rest, e) = placed v l in
      ap (is_row file) (written_at v (omega arith)) ∙ at_row file (place v) (ring v) (λ axis. point axis v) rest e (ok.most v l) (room v l)

  written_first : is_first file ≡ true
  unfolding is_first
  written_first = record_is file 0 1 2 first_kind first_length (omega (arith, place_end, place_up 0 n (omega arith), place_zero))

  written_last : is_last file (row_at file n) ≡ true
  unfolding is_last length_at kind_at record_of
  written_last =
      ap (λ (k : ℕ). record_at file k 3 0) (written_at n (omega arith))
      ∙ record_is file (place n) 3 0 (number_from file (record_of 3 []) (place n) 4 2 last_placed) (number_here file (record_of 3 []) (place n) 4 last_placed) (omega (arith, place_end))

  -- the layout is as expected
  pub written_good : file_verdict file ≡ (Ok tt)
  unfolding file_verdict
  written_good =
      let c = written_count in
      let at = row_at file (file_count file) in
      let q : at ≡ place n = ap (row_at file) c ∙ written_at n (omega arith) in
      if_clear (not (is_first file)) (FileLayout 0) (all file (file_count file)) (ap not written_first)
      ∙ at_clear (no_row file) (file_count file) (λ v. FileLayout (row_at file v)) (last file at) (λ v l. ap not (written_row v (omega arith)))
      ∙ if_clear (not (is_last file at)) (FileLayout at) (tail file at) (ap not (ap (λ (k : ℕ). is_last file (row_at file k)) c ∙ written_last))
      ∙ if_clear (ltb (at + 6) (length file)) (FileLayout (at + 6)) (Ok tt) (le-ltb (at + 6) (length file) (omega (arith, place_end)))
