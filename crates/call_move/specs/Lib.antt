pub mod Answers
pub mod Fronts
pub mod FrontLaws
pub mod LongLaws
pub mod ReplyLaws
pub mod CallLaws
