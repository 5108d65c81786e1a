-- Numerals, and what a function that writes a part of a text promises.
pub mod Numerals
pub mod Wrote
