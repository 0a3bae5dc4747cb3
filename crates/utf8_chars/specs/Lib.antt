pub mod Fronts
pub mod Decoding
pub mod Boundary
