pub mod Shapes
pub mod Causes
pub mod ZkDrivers
pub mod Laws
