pub mod ProductJobLaws
pub mod AskedLaws
pub mod ProductPromises
