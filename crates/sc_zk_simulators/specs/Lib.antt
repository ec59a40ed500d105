pub mod Drafts
pub mod Sendings
pub mod Simulations
pub mod InStep
