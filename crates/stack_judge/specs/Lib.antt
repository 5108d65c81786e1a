-- The stack: its levels and sizes, and what of it is accepted.
pub mod Stack
pub mod LevelAt
pub mod Accepts
pub mod StackVerdict
