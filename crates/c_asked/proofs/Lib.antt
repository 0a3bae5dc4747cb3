pub mod OneAsked
