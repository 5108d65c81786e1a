-- To be believed.
-- What each public call's contract says of its answer and of every table after it, as a relation between input and outcome; for refinement see crate `refine`, OneOutcome.
-- A query and the check write nothing: their tables are lent as they are, and the answer is all.
-- Assumes nothing.
use Rattle.std.specs.Prelude.{◌≡◌, List, ℕ, ℤ, length}
use Rattle.rings.specs.Table.{Lent, lent, put}
use Rattle.rings.specs.Refusal.{Paper, Amount, Counted, Verdict}
use Rattle.ring_row.specs.Edit.{Edit, valences_after, rings_after}
use Rattle.reshape_tables.specs.Calls.{Reshaping, reshape_answer, reshaped_valences, reshaped_rings, reshaped_positions}
use Rattle.move_lists.specs.Apply.{apply_answer, apply_positions, apply_map}
use Rattle.move_plan.specs.declared.Move.{Move}
use Rattle.file_reading.specs.Read.{read_answer, read_valences, read_rings, read_positions}
use Rattle.off_text.specs.ReadOff.{read_off_answer, read_off_valences, read_off_rings, read_off_positions}
use Rattle.off_text.specs.WriteOff.{write_off_answer, write_off_room}
use Rattle.file_writing.specs.Write.{write_answer, write_room}
use Rattle.listing_text.specs.Listing.{listing_text}

-- an answer that must be this one: the check and the four queries
abbrev pub Answers {ℓ} : {A : Type ℓ} → A → A → Type ℓ
Answers promised answer = answer ≡ promised

-- a ring edit of v: make, erase, replace, insert after, insert before
pub record Edited (e : Edit) (t : Lent) (v : ℕ) (answer : Verdict) (t' : Lent) : Type 0 where
  pub answers : answer ≡ e.verdict
  pub valences : t'.valences ≡ valences_after e t.valences v
  pub rings : t'.rings ≡ rings_after e t.rings v

-- an edit of the control mesh: an edge split, a face split, an edge flipped
pub record Reshaped (e : Reshaping) (t : Lent) (answer : Counted) (t' : Lent) : Type 0 where
  pub answers : answer ≡ reshape_answer e
  pub valences : t'.valences ≡ reshaped_valences e t.valences
  pub rings : t'.rings ≡ reshaped_rings e t.rings

-- of a split, also the positions
pub record Split (e : Reshaping) (n : ℕ) (t : Lent) (ps : List ℤ) (answer : Counted) (t' : Lent) (ps' : List ℤ) : Type 0 where
  pub reshaped : Reshaped e t answer t'
  pub positions : ps' ≡ reshaped_positions e n ps

-- a list of moves
pub record Applied (n levels : ℕ) (t : Lent) (ps : List ℤ) (map : List ℕ) (ms : List Move) (answer : Amount) (ps' : List ℤ) (map' : List ℕ) : Type 0 where
  pub answers : answer ≡ apply_answer n levels t ps map ms
  pub positions : ps' ≡ apply_positions n levels t ps map ms
  pub marks : map' ≡ apply_map n levels t ps map ms

-- reading: the promised answer, and the three tables as promised
pub record ReadIn (promised : Amount) (t : Lent) (ps : List ℤ) (answer : Amount) (t' : Lent) (ps' : List ℤ) : Type 0 where
  pub answers : answer ≡ promised
  pub valences : t'.valences ≡ t.valences
  pub rings : t'.rings ≡ t.rings
  pub positions : ps' ≡ ps

-- a mesh file read, and a face list
module _ (s : List ℕ) (t : Lent) (ps : List ℤ) where
  abbrev pub FileRead : Amount → Lent → List ℤ → Type 0
  FileRead = ReadIn (read_answer s t ps) (lent (read_valences s t ps) (read_rings s t ps)) (read_positions s t ps)

  abbrev pub OffRead : Amount → Lent → List ℤ → Type 0
  OffRead = ReadIn (read_off_answer s t ps) (lent (read_off_valences s t ps) (read_off_rings s t ps)) (read_off_positions s t ps)

-- writing: the promised answer, and the room as promised
pub record WrittenOut (promised : Amount) (room : List ℕ) (answer : Amount) (room' : List ℕ) : Type 0 where
  pub answers : answer ≡ promised
  pub bytes : room' ≡ room

-- a mesh file written, and a face list
module _ (n : ℕ) (t : Lent) (ps : List ℤ) (room : List ℕ) where
  abbrev pub FileWritten : Amount → List ℕ → Type 0
  FileWritten = WrittenOut (write_answer n t ps room) (write_room n t ps room)

  abbrev pub OffWritten : Amount → List ℕ → Type 0
  OffWritten = WrittenOut (write_off_answer n t ps room) (write_off_room n t ps room)

-- the listing
pub record Listed (input text : List ℕ) (answer : ℕ) (text' : List ℕ) : Type 0 where
  pub answers : answer ≡ length (listing_text input)
  pub bytes : text' ≡ put text 0 (listing_text input)

-- a call of the C interface: its struct says the promised numbers on paper, and the tables that it is lent to write are, all together, the promised ones
pub record Exported {A T : Type 0} (paper : A → Paper) (promised : Paper) (tables : T) (answer : A) (tables' : T) : Type 0 where
  pub answers : paper answer ≡ promised
  pub writes : tables' ≡ tables
