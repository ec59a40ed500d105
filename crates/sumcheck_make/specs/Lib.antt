pub mod Recipes
pub mod Made
pub mod Values
