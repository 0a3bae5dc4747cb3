pub mod OneMessage
pub mod HexLaws
pub mod CharLaws
pub mod MessageLaws
mod AnswerLaws
mod TellLaws
mod WidthLaws
pub mod ByNumberLaws
