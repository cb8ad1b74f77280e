pub mod Agreement
pub mod Paths
pub mod RemarkLaws
pub mod RewritingLaws
pub mod RuleLaws
pub mod Striking
