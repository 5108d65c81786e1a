-- Laws on what the tests of the quick pass tell, and on the rows that they read.
pub mod Telling
pub mod QuickRows
