pub mod PointParts
pub mod NextPointLaws
pub mod ClaimLaws
pub mod BatchLaws
pub mod BoundLaws
pub mod PlacedTables
pub mod TogetherLaws
