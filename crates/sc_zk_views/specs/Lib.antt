pub mod Views
pub mod Sums
