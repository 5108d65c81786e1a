-- The tables, the answers and the check.
pub mod Refusal
pub mod Paper
pub mod Table
pub mod Verdict
pub mod Check
pub mod Accepts
