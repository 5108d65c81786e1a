-- The right shoe is the left shoe, in lent tables: theorems first, then the laws that they rest on.
pub mod RightShoeIsLeftShoe
pub mod MirroredTablesAreJudgedAlike
pub mod RefinementMakesThePair
pub mod PairsAreMirrored
pub mod ImagesAreMirrored
pub mod ListsKeepThePair
pub mod LevelsStayInHull
-- laws
pub mod TrueStacks
pub mod MirroredRuns
pub mod Opposites
