-- The lines of a text, judged.
pub mod Judging
