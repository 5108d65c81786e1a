-- The rings of a text, written block by block.
pub mod Filling
