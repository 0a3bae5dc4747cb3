pub mod Checks
pub mod Left
