pub mod Looser
pub mod Records
pub mod Windows
