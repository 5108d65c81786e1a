-- A file and its mesh, there and back.
pub mod Inverse
pub mod Parts
pub mod Written
pub mod ReadBack
pub mod WriteBack
pub mod Different
pub mod FileLength
pub mod Grammar
pub mod Faults
