-- Laws of plans: what a step does, where a walk stops, which plans are fair, and that a plan means what its list means.
pub mod Plans
pub mod Walks
pub mod WalksStop
pub mod FairPlans
pub mod Laid
pub mod PlansMeanMoves
