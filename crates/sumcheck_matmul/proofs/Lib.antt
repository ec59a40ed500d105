pub mod MatmulJobLaws
pub mod AskedLaws
pub mod MatmulPromises
