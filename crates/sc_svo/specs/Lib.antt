pub mod Points
pub mod Grids
pub mod Claims
pub mod Bound
pub mod Batches
