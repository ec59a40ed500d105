pub mod Selectors
pub mod Moved
