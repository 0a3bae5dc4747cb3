pub mod FaultLaws
pub mod CallLaws
