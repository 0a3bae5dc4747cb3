pub mod Folded
pub mod Forms
pub mod Balance
pub mod Windows
