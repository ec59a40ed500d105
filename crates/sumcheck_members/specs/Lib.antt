pub mod Members
pub mod Elements
pub mod Statements
pub mod Groups
pub mod Stated
pub mod Rest
pub mod Modes
