pub mod AmountLaws
pub mod WordLaws
pub mod ReadLaws
