pub mod Table
pub mod Ask
pub mod Scan
