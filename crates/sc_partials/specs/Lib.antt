pub mod Staged
pub mod Partials
pub mod NextPartials
pub mod Sums
pub mod Products
