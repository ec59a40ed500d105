pub mod AnswerLaws
pub mod ClaimLaws
pub mod NumberLaws
