pub mod MatmulJob
pub mod MatmulLines
pub mod MatmulReplies
pub mod PromisedProducts
