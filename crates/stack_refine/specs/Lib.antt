-- The whole refinement.
pub mod Refinement
