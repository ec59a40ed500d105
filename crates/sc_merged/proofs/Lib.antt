pub mod SameRowsLaws
pub mod TotalLaws
pub mod BoundLaws
pub mod PlayLaws
pub mod TurnLaws
