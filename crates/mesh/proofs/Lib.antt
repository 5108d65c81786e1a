-- The theory of meshes. First the theorems a reader wants, each in a file that states it at the top; then the laws on the definitions of specs/ that they rest on.
pub mod TestsPassWhenSound
pub mod RingsGoRound
pub mod RingsAfterEdits
-- laws
pub mod Lists
pub mod First
pub mod Numbers
pub mod Rings
pub mod Edges
pub mod SoundMeshes
pub mod Faces
pub mod Places
pub mod Searches
pub mod Checked
pub mod Ranks
pub mod Overs
pub mod EditPlaces
pub mod EditedEntries
pub mod OpenedRings
pub mod Neighbours
pub mod Shuffled
pub mod SameRounds
