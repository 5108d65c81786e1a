-- What each call's promise allows as its outcome.
pub mod Outcomes
