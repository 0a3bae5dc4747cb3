pub mod Setters
