pub mod Numbered
pub mod Coded
