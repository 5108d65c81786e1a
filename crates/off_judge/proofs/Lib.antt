-- Laws of judging the vertices of a text.
pub mod Stops
pub mod Faulty
pub mod Stepping
