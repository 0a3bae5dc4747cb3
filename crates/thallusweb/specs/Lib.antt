pub mod Promises
pub mod ReadableWords
