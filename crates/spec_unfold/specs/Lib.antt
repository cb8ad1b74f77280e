pub mod Moving
pub mod Chains
pub mod Sorting
pub mod Unfolding
pub mod Calls
pub mod MovingMeans
pub mod UnfoldingMeans
