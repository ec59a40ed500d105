pub mod Laws
pub mod Own
pub mod Powers
pub mod PrimeLaws
pub mod Products
pub mod Tested
pub mod Written
