pub mod WalkLaws
pub mod RecordLaws
