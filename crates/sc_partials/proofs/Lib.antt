pub mod StagedLaws
pub mod PartialTables
pub mod NextTables
pub mod SumLaws
pub mod ProductLaws
pub mod Refusals
