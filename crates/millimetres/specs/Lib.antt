-- Millimetres as floats, and one move.
pub mod Millimetres
pub mod Move
