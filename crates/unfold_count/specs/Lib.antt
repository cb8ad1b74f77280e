pub mod Parts
pub mod PartLaws
pub mod Counting
pub mod CountingLaws
