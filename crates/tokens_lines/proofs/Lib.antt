mod DecimalLaws
pub mod WritingLaws
