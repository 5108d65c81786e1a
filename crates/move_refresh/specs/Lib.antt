-- What a refresh of all levels relies on and leaves.
pub mod Stack
pub mod NewPoint
