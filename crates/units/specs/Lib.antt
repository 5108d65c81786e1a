-- Numbers: coordinates in units, and the two formulas of refinement.
pub mod Coordinate
pub mod Points
