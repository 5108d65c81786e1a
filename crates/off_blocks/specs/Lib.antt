-- The blocks in which vertices are gathered.
pub mod Blocks
