pub mod Output
pub mod Front
