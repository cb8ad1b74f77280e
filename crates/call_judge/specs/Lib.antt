pub mod Answers
pub mod Letters
pub mod TableRelation
pub mod TableRelationLaws
pub mod Judgements
