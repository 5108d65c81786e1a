-- What stands beside an entry of a ring.
pub mod Beside
