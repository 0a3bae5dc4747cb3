pub mod FindLaws
pub mod BlockLaws
pub mod HiddenChars
pub mod HiddenLaws
pub mod LineLaws
