pub mod Tables
pub mod Prefixes
pub mod LetterLaws
pub mod FinalLaws
pub mod RuleLaws
