pub mod Built
pub mod SmallRounds
pub mod Ways
pub mod Asked
