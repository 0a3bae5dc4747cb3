pub mod SliceLaws
pub mod DigitLaws
pub mod PartLaws
pub mod KindLaws
