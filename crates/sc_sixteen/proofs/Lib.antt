pub mod SixteenTables
pub mod TowerTables
pub mod PolynomialTables
