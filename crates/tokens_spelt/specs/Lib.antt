pub mod Details
pub mod Spelling
