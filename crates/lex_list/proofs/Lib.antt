pub mod RecordLaws
pub mod GoesLaws
