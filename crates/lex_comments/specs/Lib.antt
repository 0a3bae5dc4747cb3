pub mod Find
pub mod Ends
pub mod Confusing
