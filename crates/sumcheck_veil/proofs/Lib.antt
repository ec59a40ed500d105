pub mod VeilJobLaws
pub mod AskedLaws
pub mod VeilPromises
