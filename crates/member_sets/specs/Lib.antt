pub mod Gathering
pub mod GatheringLaws
