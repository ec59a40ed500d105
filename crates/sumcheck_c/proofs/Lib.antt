pub mod LineLaws
pub mod TypedLaws
