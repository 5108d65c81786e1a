-- Laws on the ring edits. What holds of every edit:
pub mod RefusedWritesNothing
pub mod OnlyOneRow
pub mod StaysProper
-- what the functions' proofs and these cite
pub mod Tables
pub mod Edited
pub mod ProperLists
pub mod AcceptedEdits
