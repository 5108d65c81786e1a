-- One level of Loop refinement, over the lent tables.
pub mod Level
