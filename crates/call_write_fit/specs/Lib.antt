pub mod Forms
pub mod ByValue
pub mod ByValueLaws
