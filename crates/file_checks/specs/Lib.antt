pub mod BigEndian
pub mod BigEndianLaws
