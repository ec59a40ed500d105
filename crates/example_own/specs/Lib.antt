pub mod Counting
pub mod ThirtyOne
