pub mod Steps
pub mod Clearing
pub mod ClearLaws
