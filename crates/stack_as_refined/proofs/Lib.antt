-- What follows where no stack vertex is strange, and that what refinement writes is so, come first; then the laws on what the quick pass tells, and on the sweep over the levels.
pub mod StackAsRefined
pub mod RefinedIsNotStrange
pub mod QuickLevel
pub mod Climbs
pub mod StackRows
pub mod Sweep
