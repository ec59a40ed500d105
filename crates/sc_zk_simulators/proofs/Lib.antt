pub mod SendingLaws
pub mod InStepLaws
pub mod DraftLaws
