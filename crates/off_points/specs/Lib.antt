-- The points of a text.
pub mod Points
