-- Laws on tables that come nearer to the whole next level.
pub mod Nearing
pub mod Targets
pub mod PointTargets
pub mod HalfRows
pub mod Steps
pub mod OneEdge
