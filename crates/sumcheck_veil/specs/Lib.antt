pub mod VeilJob
pub mod VeilMasks
pub mod VeilLines
pub mod Veils
pub mod PromisedVeils
