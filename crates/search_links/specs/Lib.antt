pub mod Rows
pub mod Covers
pub mod RowLaws
pub mod CoverLaws
pub mod Retirements
pub mod Listing
