-- Laws on tables with the next level's first vertices, and on the whole next level.
pub mod Done
pub mod Whole
