pub mod Hashed
pub mod Parties
pub mod Ground
