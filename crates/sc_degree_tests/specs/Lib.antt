pub mod Sums
pub mod Views
pub mod TwoTied
