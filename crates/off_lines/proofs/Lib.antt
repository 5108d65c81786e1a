-- Laws of the lines of a face list.
pub mod Writing
