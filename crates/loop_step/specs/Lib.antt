-- Loop's step: what a reader must believe. The rings of the next level, and the masks of its points.
pub mod Refine
pub mod Loop
pub mod Dependents
