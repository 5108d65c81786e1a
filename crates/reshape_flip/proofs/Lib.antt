-- Laws of the flip of an edge.
pub mod FlipDone
