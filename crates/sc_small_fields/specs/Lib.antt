pub mod F257Laws
pub mod F257x2Laws
pub mod QuadraticFields
pub mod QuadraticLaws
pub mod ResiduesLaws
