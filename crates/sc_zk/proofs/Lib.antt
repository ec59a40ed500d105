pub mod RecordedLaws
pub mod LayoutLaws
