-- To be believed.
-- What every call answers on paper: a number, a place and values, as section "What comes back when we say no" has them.
-- Assumes nothing.
use Rattle.std.specs.Prelude.{ℕ, Result, Ok}
use Rattle.rings.specs.declared.Refusal.{Refusal}
use Rattle.rings.specs.declared.Counts.{Counts}
use Rattle.rings.specs.declared.Refusal.TheVariants.{TableTooShort, VertexCount, NoSuchVertex, RingImproper, NotMutual}
use Rattle.rings.specs.declared.Refusal.TheVariants.{NotTriangle, ControlCoordinate, LevelCount, LevelTooLarge, NoRoom}
use Rattle.rings.specs.declared.Refusal.TheVariants.{StackAltered, TooManyMoves, NotFinite, OutOfReach, NeighbourTaken}
use Rattle.rings.specs.declared.Refusal.TheVariants.{RingFull, FileLayout, NoEdgeOrFace, CannotFlip, BadText, OpenRing}

-- what a ring edit answers: accepted, or why not
abbrev pub Verdict : Type 0
Verdict = Result (Unit {0}) Refusal

-- what the check and refinement answer: V, E and F
abbrev pub Counted : Type 0
Counted = Result Counts Refusal

-- what a call answers that gives one number
abbrev pub Amount : Type 0
Amount = Result ℕ Refusal

-- V, E and F as an answer
abbrev pub counted : ℕ → ℕ → ℕ → Counted
counted v e f = Ok (record { v = v; e = e; f = f })

-- number, place, and what the call gives: V, E and F, or one number in the first of the three
pub record Paper : Type 0 where
  pub number : ℕ
  pub place : ℕ
  pub first : ℕ
  pub second : ℕ
  pub third : ℕ

-- number 0, place 0, and the values
abbrev pub accepted : ℕ → ℕ → ℕ → Paper
accepted a b c = record { number = 0; place = 0; first = a; second = b; third = c }

-- the number of a reason and its place; d is what is answered in place of a value
abbrev pub refused : ℕ → ℕ → ℕ → Paper
refused number place d = record { number = number; place = place; first = d; second = 0; third = 0 }

-- the number of each reason: 1 to 17 as document 01's table has them, 18 and 19 as document 02's order 1, 20 and 21 as its order 4
abbrev pub number_of : Refusal → ℕ
number_of TableTooShort = 1
number_of VertexCount = 2
number_of (NoSuchVertex i) = 3
number_of (RingImproper v) = 4
number_of (NotMutual v) = 5
number_of (NotTriangle v) = 6
number_of (ControlCoordinate v) = 7
number_of LevelCount = 8
number_of (LevelTooLarge k) = 9
number_of NoRoom = 10
number_of (StackAltered x) = 11
number_of TooManyMoves = 12
number_of (NotFinite i) = 13
number_of (OutOfReach i) = 14
number_of NeighbourTaken = 15
number_of RingFull = 16
number_of (FileLayout at) = 17
number_of NoEdgeOrFace = 18
number_of CannotFlip = 19
number_of (BadText line) = 20
number_of (OpenRing v) = 21

-- the place of each: what its case carries, or 0
abbrev pub place_of : Refusal → ℕ
place_of TableTooShort = 0
place_of VertexCount = 0
place_of (NoSuchVertex i) = i
place_of (RingImproper v) = v
place_of (NotMutual v) = v
place_of (NotTriangle v) = v
place_of (ControlCoordinate v) = v
place_of LevelCount = 0
place_of (LevelTooLarge k) = k
place_of NoRoom = 0
place_of (StackAltered x) = x
place_of TooManyMoves = 0
place_of (NotFinite i) = i
place_of (OutOfReach i) = i
place_of NeighbourTaken = 0
place_of RingFull = 0
place_of (FileLayout at) = at
place_of NoEdgeOrFace = 0
place_of CannotFlip = 0
place_of (BadText line) = line
place_of (OpenRing v) = v

-- what a refused call gives on paper
abbrev pub reason : Refusal → ℕ → Paper
reason r d = refused (number_of r) (place_of r) d
