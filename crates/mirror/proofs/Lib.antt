-- The mirrored mesh and move: theorems first, then the laws that they rest on.
pub mod MirroredMeshIsSound
pub mod EveryLevelIsMirrored
pub mod AnyStepsKeepTheMirror
pub mod MirroredMovesLeadToMirroredPoints
-- laws
pub mod Mirrorings
pub mod LoopMirrors
pub mod Opposed
