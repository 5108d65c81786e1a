-- The map of touched points.
pub mod Map
