pub mod ProductJob
pub mod Products
pub mod CertifiedProducts
