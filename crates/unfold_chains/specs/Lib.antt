pub mod Numbering
pub mod ChainLaws
pub mod FileLaws
