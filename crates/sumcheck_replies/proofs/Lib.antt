pub mod NumberLaws
pub mod LineLaws
pub mod GridLines
pub mod FieldLaws
pub mod KindLaws
