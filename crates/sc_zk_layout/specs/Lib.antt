pub mod Grids
pub mod Played
pub mod PlayedLaws
pub mod Recorded
pub mod Provers
