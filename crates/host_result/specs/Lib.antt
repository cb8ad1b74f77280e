pub mod Fronts
pub mod Results
pub mod LowNumbers
