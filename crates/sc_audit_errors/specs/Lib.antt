pub mod Arities
pub mod Findings
