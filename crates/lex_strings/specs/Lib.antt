pub mod Raw
pub mod Parsing
