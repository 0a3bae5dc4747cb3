pub mod PlaceLaws
pub mod PartLaws
mod FloatLaws
