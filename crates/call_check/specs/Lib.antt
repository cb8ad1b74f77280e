pub mod Answers
pub mod Clauses
pub mod OrderLaws
