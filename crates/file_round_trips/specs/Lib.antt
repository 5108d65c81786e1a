-- What the theorems about files are held to: how long a file is, and files that are damaged.
pub mod FileSize
pub mod Damaged
