-- Laws of the format.
pub mod Gathered
pub mod Blocks
pub mod Numbers
pub mod Signed
pub mod Finding
pub mod Judging
pub mod InTables
