-- The theory of the three edits. First what a reader wants, each in a file that states it at the top; then the laws that it rests on.
pub mod ReshapingKeepsSoundness
pub mod FlippingBackGivesTheOldRings
pub mod EitherEnd
pub mod MeansStayInRange
pub mod Examples
-- laws
pub mod Triangles
pub mod EditedRings
pub mod Kites
pub mod EditCounts
pub mod EdgeSplit
pub mod FaceSplit
pub mod SmallestCorner
pub mod EdgeFlip
pub mod Rounds
pub mod FlipBack
