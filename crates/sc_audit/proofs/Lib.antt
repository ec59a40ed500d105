pub mod DrawnLaws
pub mod LeftPairs
pub mod LuckFound
pub mod RefusedBuilds
pub mod WayLaws
