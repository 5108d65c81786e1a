-- Laws on coordinates, and what the two formulas are as masks.
pub mod Coordinates
pub mod Masks
