pub mod Blocks
pub mod BlockLaws
pub mod OnRecords
pub mod Agreement
pub mod FormLaws
pub mod RecordLaws
