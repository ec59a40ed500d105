pub mod ExplainJob
pub mod Explains
pub mod PromisedMasks
