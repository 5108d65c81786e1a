-- Laws of the refresh. Theorems: the marks of a refreshed stack, counted, are its touched points (TouchedMarks); the outcome as a caller needs it (Called).
pub mod TouchedMarks
pub mod Called
-- A new vertex as it is read; level after level, and what then stands where.
pub mod NewPoints
pub mod Raised
pub mod RefreshedPoints
