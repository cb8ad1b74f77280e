pub mod Answers
pub mod RecognizeLaws
pub mod Determined
pub mod Readings
pub mod OneRule
