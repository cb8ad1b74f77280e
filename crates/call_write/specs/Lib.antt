pub mod Answers
pub mod Clauses
