-- Demand 3; then the laws on lists of moves and on the stack after them.
pub mod EveryLevelIsFresh
pub mod MapShowsTouched
pub mod RefiningAgain
-- laws
pub mod ControlPoints
pub mod AfterList
pub mod EntryByEntry
pub mod Judging
pub mod CarriedOut
pub mod Settled
