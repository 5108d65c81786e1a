-- Laws on what stands beside an entry.
pub mod BesideFound
