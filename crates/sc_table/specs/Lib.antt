pub mod Blocks
pub mod Polys
pub mod PolyLoans
pub mod SplitEqs
pub mod Strategy
