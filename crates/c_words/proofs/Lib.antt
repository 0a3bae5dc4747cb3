pub mod RefusalLaws
pub mod FoldTell
