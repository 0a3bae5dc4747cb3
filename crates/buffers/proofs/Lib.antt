pub mod PutLaws
pub mod AddedLaws
pub mod EncodeLaws
