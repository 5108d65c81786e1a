-- The theory of steps. First the theorems a reader wants, each in a file that states it at the top; then the laws on the definitions of specs/ that they rest on.
pub mod RefreshIsRefinement
pub mod TouchedPoints
pub mod RoundsToNearest
pub mod HalvesGoToEven
-- laws
pub mod Refresh
pub mod Ints
pub mod Rounding
pub mod Means
pub mod Lifted
pub mod Hull
pub mod ShuffledTerms
