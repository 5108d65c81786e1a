-- The format of a mesh file.
pub mod Bytes
pub mod Blocks
pub mod Records
pub mod Layout
pub mod Judging
