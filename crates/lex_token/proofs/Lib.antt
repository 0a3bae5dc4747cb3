pub mod SliceLaws
pub mod LexLaws
pub mod StepLaws
pub mod KindLaws
mod FrontLaws
pub mod RunLaws
pub mod WalkLaws
pub mod StringLaws
pub mod ReservedLaws
pub mod CommentLaws
mod QuickLaws
pub mod AloneLaws
