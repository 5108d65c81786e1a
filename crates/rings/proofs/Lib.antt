-- What the check accepts and refuses; then the laws on tables, verdicts and the check.
pub mod CheckAcceptsSoundMeshes
pub mod Verdicts
pub mod Rows
pub mod Checks
pub mod Accepted
pub mod Rewrite
pub mod Tables
pub mod Blocks
pub mod LevelRows
