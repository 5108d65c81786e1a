-- Laws on the stack; the theorems that a reader wants come first.
pub mod StackIsRefined
pub mod StackStaysInHull
pub mod StackKeeps
pub mod OneOutcome
pub mod OnlyControlIsRead
pub mod StackLevels
pub mod LevelWritten
pub mod WrittenLevels
pub mod RefineAnswers
