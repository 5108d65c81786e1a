-- Two outcomes that a call's promise allows for one input are equal.
pub mod OneOutcome
