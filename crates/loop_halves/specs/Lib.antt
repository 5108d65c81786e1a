-- How the next level is written.
pub mod Nearer
