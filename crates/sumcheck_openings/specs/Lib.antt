pub mod OpeningsJob
pub mod OpeningsLines
pub mod OpeningsReplies
pub mod PromisedOpenings
