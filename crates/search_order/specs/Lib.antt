pub mod Lists
pub mod Places
pub mod PlaceLaws
pub mod Candidates
pub mod CandidateLaws
pub mod PlacesLeft
pub mod PlacesLeftLaws
