-- The queries.
pub mod Queries
pub mod Paper
