pub mod GroupSteps
pub mod GroupValues
pub mod FalseGroups
pub mod ClaimGroups
pub mod ExcessGroups
pub mod ConstraintPoints
