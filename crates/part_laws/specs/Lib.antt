pub mod PartLaws
pub mod ScopeLaws
