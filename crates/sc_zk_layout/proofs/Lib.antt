pub mod GridLaws
pub mod RecordedLaws
