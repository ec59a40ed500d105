pub mod Groups
pub mod Constraints
pub mod FalseClaims
pub mod ConstraintValues
