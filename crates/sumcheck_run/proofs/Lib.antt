pub mod Outcomes
pub mod RunLaws
pub mod WordLaws
