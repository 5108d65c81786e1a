-- Laws on the bits of words, and on the map as a set.
pub mod Bits
pub mod Sets
