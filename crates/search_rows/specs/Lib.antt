pub mod Base
pub mod Meanings
pub mod Forming
pub mod FormLaws
