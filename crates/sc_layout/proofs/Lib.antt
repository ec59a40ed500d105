pub mod SumLaws
pub mod BookLaws
pub mod DrawLaws
pub mod TrueLaws
pub mod ScaledLaws
pub mod ProverLaws
