pub mod Details
pub mod Clauses
