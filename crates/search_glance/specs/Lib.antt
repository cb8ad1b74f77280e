pub mod Glancing
pub mod GlanceLaws
