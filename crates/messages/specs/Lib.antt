pub mod Messages
pub mod ByNumber
pub mod Spelled
pub mod MessageModel
