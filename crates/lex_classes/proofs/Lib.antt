pub mod TableLaws
pub mod AskLaws
pub mod ScanLaws
pub mod SearchLaws
pub mod ConfusingLaws
