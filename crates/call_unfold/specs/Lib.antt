pub mod Answers
pub mod Results
pub mod KeptLaws
pub mod LengthLaws
pub mod WriteLaws
pub mod ResultLaws
pub mod CallLaws
