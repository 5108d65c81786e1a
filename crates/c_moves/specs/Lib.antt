-- Moves as they cross the C interface.
pub mod Kinds
pub mod Records
