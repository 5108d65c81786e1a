-- The vertices of a text, judged block by block.
pub mod Judging
