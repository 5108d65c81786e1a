-- The counts of a ring's entries.
pub mod Counts
