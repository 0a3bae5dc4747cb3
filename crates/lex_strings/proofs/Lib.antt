pub mod RawLaws
pub mod PassLaws
pub mod CopyLaws
pub mod DefinitionLaws
