-- Laws on numbers in a text.
pub mod Scanning
pub mod Found
