pub mod HandLaws
pub mod PlainLaws
pub mod QuotedLaws
pub mod NameLaws
