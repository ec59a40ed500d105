pub mod CircuitJobLaws
pub mod LayerLines
pub mod AskedLaws
pub mod CircuitPromises
