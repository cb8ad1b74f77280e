pub mod Near
pub mod Steps
pub mod Seeking
pub mod NearLaws
pub mod SeekLaws
pub mod DropLaws
