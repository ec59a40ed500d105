pub mod Arity
pub mod TwoLaws
