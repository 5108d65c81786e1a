-- Answers as they cross the C interface.
pub mod Crossing
