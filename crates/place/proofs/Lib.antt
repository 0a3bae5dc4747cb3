pub mod OnePlace
pub mod MoveLaws
pub mod PieceLaws
mod ByteLaws
mod WalkLaws
