-- Any step of refinement: what a reader must believe. How numbers are rounded, points by their masks, and the sizes of a level.
pub mod Round
pub mod Mask
pub mod Sizes
