-- Laws on tables that keep their first rows, on the rings of the next level, on its points, and on the rings, masks and numbers of the next level.
pub mod Kept
pub mod Mids
pub mod OldRings
pub mod PointSums
pub mod NextLevel
