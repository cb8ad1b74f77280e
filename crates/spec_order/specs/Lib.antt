pub mod Algebra
pub mod Journal
pub mod Candidates
pub mod Order
pub mod Stopping
pub mod Behind
pub mod Fitting
pub mod Derivation
