pub mod OneValue
pub mod SomeValue
pub mod Rows
mod Examples
pub mod OneReading
pub mod IntegerLaws
pub mod StandardIntegers
pub mod ValueLengths
pub mod ValueLaws
pub mod ReadingLaws
pub mod Signs
pub mod Readable
pub mod HandedOut
