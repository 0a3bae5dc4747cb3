mod WordLaws
pub mod OneWords
pub mod PassWords
pub mod Theorems
