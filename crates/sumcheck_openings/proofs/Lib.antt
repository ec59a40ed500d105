pub mod AskedLaws
pub mod OpeningsJobLaws
pub mod OpeningsPromises
pub mod NumberedLines
