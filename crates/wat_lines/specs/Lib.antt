pub mod LineEnds
pub mod Newlines
