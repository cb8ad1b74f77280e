pub mod Elements
pub mod Tests
pub mod Lists
