pub mod NumberedLaws
pub mod NowhereLaws
pub mod OneReader
