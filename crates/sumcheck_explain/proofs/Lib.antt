pub mod ExplainJobLaws
pub mod MaskLines
pub mod AskedLaws
pub mod ExplainPromises
