pub mod Held
pub mod SaidLaws
pub mod HeldLaws
