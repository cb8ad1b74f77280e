pub mod Answers
pub mod Sheets
pub mod SheetLaws
pub mod LineLaws
pub mod ListLaws
