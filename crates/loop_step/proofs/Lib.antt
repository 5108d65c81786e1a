-- The theory of Loop's step. First the theorems a reader wants, each in a file that states it at the top; then the laws on the definitions of specs/ that they rest on.
pub mod RefinementKeepsSoundness
pub mod PointsStayInHull
pub mod EdgeNumbers
pub mod RefinedRows
pub mod LoopMasks
pub mod DependentsAreTouched
-- laws
pub mod Mids
pub mod Refined
pub mod RefinedFaces
pub mod Levels
pub mod LoopMeans
