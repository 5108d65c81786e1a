-- The mirrored mesh, the mirrored move, and what the mirrored pair asks of a step of refinement.
pub mod Mirror
pub mod MirroredMove
pub mod Step
