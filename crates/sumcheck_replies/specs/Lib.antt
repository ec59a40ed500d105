pub mod Fields
pub mod Reply
pub mod Lines
pub mod Refusals
pub mod Kinds
pub mod Inputs
pub mod Over
