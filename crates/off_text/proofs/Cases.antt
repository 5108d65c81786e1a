-- Small face lists: the faces of document 01's two meshes in order, the rings that come of them, and the verdicts of texts at which a rule shows.
-- Assumes nothing.
use mathlib.Core.Path.{◌≡◌, refl}
use mathlib.Core.List.{List, [], ◌∷◌, ◌++◌, map}
use Prim.Native.Nat.{ℕ}
use lib.IntN.{pos, negsuc}
use lib.ListN.{get_or, replicate}
use Rattle.mesh.specs.Search.{first_from, first, some}
use Rattle.mesh.specs.Ring.{has, place_before, prev}
use Rattle.mesh.specs.Mesh.{mesh}
use Rattle.units.specs.Coordinate.{beyond}
use Rattle.rings.specs.Table.{lent, gather}
use Rattle.rings.specs.Verdict.{refuse_if, refuse_at, and_then}
use Rattle.rings.specs.Check.{bad_count, short_rings, short_tables}
use Rattle.rings.specs.declared.Refusal.TheVariants.{TableTooShort, VertexCount, BadText, OpenRing, RingImproper, ControlCoordinate}
use Rattle.numerals.specs.Numerals.{digits, number, signed}
use Rattle.off_numbers.specs.Text.{byte_at, digit_at, run_at, value_of, value_at, after_at, padded, is_number, minus_at, is_unit, unit_at, after_unit}
use Rattle.off_rings.specs.Faces.{Face, bad_face, corner, before, behind, has_pair, steps, trail, pairs}
use Rattle.off_rings.specs.Faces.{faces_at, after, least, face_ring, back_in, closed, doubled, twisted, unfit_faces}
use Rattle.off_rings.specs.Listed.{face_at, begins, faces_from, faces_below, listed}
use Rattle.off_text.specs.Layout.{is_word, text_count, text_faces, text_edges, is_counts, is_vertex, after_vertex, vertex_at, axis_at}
use Rattle.off_text.specs.Layout.{text_point, corners_at, is_corners, is_face, after_face, face_line_at, text_face, text_verdict}
use Rattle.off_text.specs.ReadOff.{text_ring, text_beyond, faces_verdict, read_off_verdict}
use Rattle.off_text.specs.WriteOff.{word, counts_line, vertex_line, face_line, face_lines}
use Rattle.rings.specs.Refusal.{Verdict}
use Rattle.std.specs.Prelude.{Ok, Err}

-- ---- document 01's tetrahedron and octahedron

abbrev tetrahedron : List (List ℕ)
tetrahedron = (1 ∷ 2 ∷ 3 ∷ []) ∷ (0 ∷ 3 ∷ 2 ∷ []) ∷ (0 ∷ 1 ∷ 3 ∷ []) ∷ (0 ∷ 2 ∷ 1 ∷ []) ∷ []

abbrev octahedron : List (List ℕ)
octahedron =
    (1 ∷ 2 ∷ 3 ∷ 4 ∷ [])
    ∷ (0 ∷ 4 ∷ 5 ∷ 2 ∷ [])
    ∷ (0 ∷ 1 ∷ 5 ∷ 3 ∷ [])
    ∷ (0 ∷ 2 ∷ 5 ∷ 4 ∷ [])
    ∷ (0 ∷ 3 ∷ 5 ∷ 1 ∷ [])
    ∷ (1 ∷ 4 ∷ 3 ∷ 2 ∷ [])
    ∷ []

abbrev ring_at : List (List ℕ) → ℕ → List ℕ
ring_at rings v = get_or rings v []

abbrev face : ℕ → ℕ → ℕ → Face
face a b c = record { a = a; b = b; c = c }

-- their faces as they are written
abbrev tetrahedron_faces : List Face
tetrahedron_faces = face 0 1 3 ∷ face 0 2 1 ∷ face 0 3 2 ∷ face 1 2 3 ∷ []

abbrev octahedron_faces : List Face
octahedron_faces = face 0 1 4 ∷ face 0 2 1 ∷ face 0 3 2 ∷ face 0 4 3 ∷ face 1 2 5 ∷ face 1 5 4 ∷ face 2 3 5 ∷ face 3 4 5 ∷ []

pub listed_tetrahedron : listed (mesh 4 (ring_at tetrahedron)) ≡ tetrahedron_faces
unfolding first_from first some has place_before prev face_at begins faces_from faces_below listed
listed_tetrahedron = refl

pub listed_octahedron : listed (mesh 6 (ring_at octahedron)) ≡ octahedron_faces
unfolding first_from first some has place_before prev face_at begins faces_from faces_below listed
listed_octahedron = refl

-- ---- texts

-- a text by its lines: V, F and E; the vertices; the faces
abbrev lines : List ℕ → List ℕ → List ℕ → List ℕ
lines counts points corners = word ++ (counts ++ (points ++ corners))

-- the line of a vertex at 1024, 0 and -7, and so many of them
abbrev point : List ℕ
point = vertex_line (λ axis. get_or (pos 1024 ∷ pos 0 ∷ negsuc 6 ∷ []) axis (pos 0))

abbrev points : ℕ → List ℕ
points n = gather (λ v. point) n

-- 1024 0 -7 and a newline, byte by byte
pub point_is : point ≡ 49 ∷ 48 ∷ 50 ∷ 52 ∷ 32 ∷ 48 ∷ 32 ∷ 45 ∷ 55 ∷ 10 ∷ []
unfolding digits number signed vertex_line
point_is = refl

-- V vertices there and these faces, F of them, with E edges
abbrev text : ℕ → ℕ → ℕ → List Face → List ℕ
text v f e corners = lines (counts_line v f e) (points v) (face_lines corners)

abbrev tetrahedron_text : List ℕ
tetrahedron_text = text 4 4 6 tetrahedron_faces

-- the tetrahedron with another second line, another line of vertex 0, other bytes for the faces
abbrev with_counts : List ℕ → List ℕ
with_counts counts = lines counts (points 4) (face_lines tetrahedron_faces)

abbrev with_point : List ℕ → List ℕ
with_point first = lines (counts_line 4 4 6) (first ++ points 3) (face_lines tetrahedron_faces)

abbrev with_faces : List ℕ → List ℕ
with_faces corners = lines (counts_line 4 4 6) (points 4) corners

-- ---- reading

abbrev rings_read : List ℕ → List ℕ → List (List ℕ)
rings_read s vertices = map (λ v. text_ring s v) vertices

pub read_tetrahedron : rings_read tetrahedron_text (0 ∷ 1 ∷ 2 ∷ 3 ∷ []) ≡ tetrahedron
unfolding first_from first some byte_at digit_at run_at value_of value_at after_at minus_at unit_at after_unit corner before behind has_pair steps trail faces_at
    after least face_ring text_count text_faces after_vertex vertex_at corners_at after_face face_line_at text_face text_ring counts_line vertex_line face_line
    face_lines digits number signed
read_tetrahedron = refl

-- faces in any order, begun at any corner
pub read_octahedron :
    rings_read (text 6 8 12 (face 5 3 4 ∷ face 0 2 1 ∷ face 2 0 3 ∷ face 4 3 0 ∷ face 2 5 1 ∷ face 5 4 1 ∷ face 3 5 2 ∷ face 1 4 0 ∷ []))
    (0 ∷ 1 ∷ 2 ∷ 3 ∷ 4 ∷ 5 ∷ [])
    ≡ octahedron
unfolding first_from first some byte_at digit_at run_at value_of value_at after_at minus_at unit_at after_unit corner before behind has_pair steps trail faces_at
    after least face_ring text_count text_faces after_vertex vertex_at corners_at after_face face_line_at text_face text_ring counts_line vertex_line face_line
    face_lines digits number signed
read_octahedron = refl

-- a verdict in tables for eight vertices
abbrev judge : List ℕ → Verdict
judge s = read_off_verdict s (lent (replicate 8 0) (replicate 256 0)) (replicate 24 (pos 0))

-- 20: nothing; a carriage return behind the word; a leading zero; two blanks; 2E is not 3F
pub first_lines :
    map judge
    ([]
    ∷ (79 ∷ 70 ∷ 70 ∷ 13 ∷ 10 ∷ [])
    ∷ with_counts (48 ∷ 52 ∷ 32 ∷ 52 ∷ 32 ∷ 54 ∷ 10 ∷ [])
    ∷ with_counts (52 ∷ 32 ∷ 32 ∷ 52 ∷ 32 ∷ 54 ∷ 10 ∷ [])
    ∷ text 4 4 7 tetrahedron_faces
    ∷ [])
    ≡ Err (BadText 1) ∷ Err (BadText 1) ∷ Err (BadText 2) ∷ Err (BadText 2) ∷ Err (BadText 2) ∷ []
unfolding first_from first some refuse_if refuse_at and_then bad_count short_rings short_tables beyond byte_at digit_at run_at value_of value_at after_at padded
    is_number minus_at is_unit unit_at after_unit bad_face corner before behind has_pair steps trail pairs faces_at after least face_ring back_in closed doubled
    twisted unfit_faces is_word text_count text_faces text_edges is_counts is_vertex after_vertex vertex_at axis_at text_point corners_at is_corners is_face
    after_face face_line_at text_face text_verdict text_beyond faces_verdict read_off_verdict counts_line vertex_line face_line face_lines digits number signed
first_lines = refl

-- 20: a plus sign; -0; a coordinate of more than 32 bits
pub vertex_lines_lem :
    map judge
    (with_point (43 ∷ 49 ∷ 32 ∷ 48 ∷ 32 ∷ 48 ∷ 10 ∷ [])
    ∷ with_point (49 ∷ 32 ∷ 45 ∷ 48 ∷ 32 ∷ 48 ∷ 10 ∷ [])
    ∷ with_point (number 2147483648 32 ++ (48 ∷ 32 ∷ 48 ∷ 10 ∷ []))
    ∷ [])
    ≡ Err (BadText 3) ∷ Err (BadText 3) ∷ Err (BadText 3) ∷ []
unfolding first_from first some refuse_if refuse_at and_then bad_count short_rings short_tables beyond byte_at digit_at run_at value_of value_at after_at padded
    is_number minus_at is_unit unit_at after_unit bad_face corner before behind has_pair steps trail pairs faces_at after least face_ring back_in closed doubled
    twisted unfit_faces is_word text_count text_faces text_edges is_counts is_vertex after_vertex vertex_at axis_at text_point corners_at is_corners is_face
    after_face face_line_at text_face text_verdict text_beyond faces_verdict read_off_verdict counts_line vertex_line face_line face_lines digits number signed
vertex_lines_lem = refl

-- 20: a corner repeated; a corner not below V; a line missing; no newline behind the last; a byte behind it
pub face_lines_lem :
    map judge
    (text 4 4 6 (face 0 1 3 ∷ face 0 2 2 ∷ face 0 3 2 ∷ face 1 2 3 ∷ [])
    ∷ text 4 4 6 (face 0 1 3 ∷ face 0 2 1 ∷ face 0 3 4 ∷ face 1 2 3 ∷ [])
    ∷ text 4 4 6 (face 0 1 3 ∷ face 0 2 1 ∷ face 0 3 2 ∷ [])
    ∷ with_faces (face_lines (face 0 1 3 ∷ face 0 2 1 ∷ face 0 3 2 ∷ []) ++ (51 ∷ 32 ∷ 49 ∷ 32 ∷ 50 ∷ 32 ∷ 51 ∷ []))
    ∷ with_faces (face_lines tetrahedron_faces ++ (10 ∷ []))
    ∷ [])
    ≡ Err (BadText 8) ∷ Err (BadText 9) ∷ Err (BadText 10) ∷ Err (BadText 10) ∷ Err (BadText 11) ∷ []
unfolding first_from first some refuse_if refuse_at and_then bad_count short_rings short_tables beyond byte_at digit_at run_at value_of value_at after_at padded
    is_number minus_at is_unit unit_at after_unit bad_face corner before behind has_pair steps trail pairs faces_at after least face_ring back_in closed doubled
    twisted unfit_faces is_word text_count text_faces text_edges is_counts is_vertex after_vertex vertex_at axis_at text_point corners_at is_corners is_face
    after_face face_line_at text_face text_verdict text_beyond faces_verdict read_off_verdict counts_line vertex_line face_line face_lines digits number signed
face_lines_lem = refl

-- accepted; 2 for three vertices; 1 for nine; 7 for a coordinate of 32 bits that is beyond the range
pub whole_texts :
    map judge
    (tetrahedron_text
    ∷ text 3 2 3 (face 0 1 2 ∷ face 0 2 1 ∷ [])
    ∷ text 9 0 0 []
    ∷ with_point (number 2147483647 32 ++ (48 ∷ 32 ∷ 48 ∷ 10 ∷ []))
    ∷ [])
    ≡ (Ok tt) ∷ Err VertexCount ∷ Err TableTooShort ∷ Err (ControlCoordinate 0) ∷ []
unfolding first_from first some refuse_if refuse_at and_then bad_count short_rings short_tables beyond byte_at digit_at run_at value_of value_at after_at padded
    is_number minus_at is_unit unit_at after_unit bad_face corner before behind has_pair steps trail pairs faces_at after least face_ring back_in closed doubled
    twisted unfit_faces is_word text_count text_faces text_edges is_counts is_vertex after_vertex vertex_at axis_at text_point corners_at is_corners is_face
    after_face face_line_at text_face text_verdict text_beyond faces_verdict read_off_verdict counts_line vertex_line face_line face_lines digits number signed
whole_texts = refl

-- 21 and 4: a face twice, so that 0 begins a pair of two faces; a fan that stays open; no face at all; two faces back to back;
-- the tetrahedron on 4 to 7 with two faces back to back hung on it at 4 by 0 and 1: 21 at 4, though 0 has a valence of 2
pub vertices :
    map judge
    (text 4 4 6 (face 0 1 3 ∷ face 0 1 3 ∷ face 0 3 2 ∷ face 1 2 3 ∷ [])
    ∷ text 4 2 3 (face 0 1 3 ∷ face 0 2 1 ∷ [])
    ∷ text 4 0 0 []
    ∷ text 4 2 3 (face 0 1 2 ∷ face 0 2 1 ∷ [])
    ∷ text 8 6 9 (face 4 5 7 ∷ face 4 6 5 ∷ face 4 7 6 ∷ face 5 6 7 ∷ face 0 1 4 ∷ face 0 4 1 ∷ [])
    ∷ [])
    ≡ Err (OpenRing 0) ∷ Err (OpenRing 0) ∷ Err (RingImproper 0) ∷ Err (RingImproper 0) ∷ Err (OpenRing 4) ∷ []
unfolding first_from first some refuse_if refuse_at and_then bad_count short_rings short_tables beyond byte_at digit_at run_at value_of value_at after_at padded
    is_number minus_at is_unit unit_at after_unit bad_face corner before behind has_pair steps trail pairs faces_at after least face_ring back_in closed doubled
    twisted unfit_faces is_word text_count text_faces text_edges is_counts is_vertex after_vertex vertex_at axis_at text_point corners_at is_corners is_face
    after_face face_line_at text_face text_verdict text_beyond faces_verdict read_off_verdict counts_line vertex_line face_line face_lines digits number signed
vertices = refl
