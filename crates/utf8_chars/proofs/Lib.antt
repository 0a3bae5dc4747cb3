pub mod CharBytes
pub mod DecodeLaws
mod BoundaryLaws
mod ScalarLaws
mod FollowLaws
