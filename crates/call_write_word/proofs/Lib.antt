pub mod Handing
pub mod Buffers
pub mod Views
pub mod Faults
