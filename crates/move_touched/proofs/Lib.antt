-- Which points of the next level are touched; its rings read; the dependents of a vertex marked, and those of all marked ones; positions vertex by vertex.
pub mod Touched
pub mod Joined
pub mod Ends
pub mod Marking
pub mod Judging
pub mod Renewed
