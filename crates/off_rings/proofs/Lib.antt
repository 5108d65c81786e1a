-- Laws on face lists, and the theorems.
pub mod AcceptedFacesAreSound
pub mod WrittenFacesReadBack
pub mod EachFaceIsListedOnce
-- laws
pub mod Sums
pub mod FansOfFaces
pub mod Pairs
pub mod Trails
pub mod Turns
pub mod Corners
pub mod Tallies
pub mod ListedPairs
pub mod CornersCounted
