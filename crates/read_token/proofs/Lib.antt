pub mod PresentLaws
pub mod KindLaws
