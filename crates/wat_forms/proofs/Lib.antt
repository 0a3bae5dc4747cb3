mod Sides
mod Balances
mod Levels
mod FewBytes
pub mod FoldLaws
pub mod InnerForms
pub mod FoldWindows
pub mod StrictFolds
