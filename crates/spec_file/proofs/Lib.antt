pub mod EntryLaws
pub mod Ranges
pub mod RefusalLaws
pub mod Rising
pub mod Sorted
pub mod StretchLaws
pub mod Valid
pub mod WalkLaws
