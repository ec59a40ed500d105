pub mod GroupCounts
pub mod RestLaws
pub mod FormLaws
pub mod StatedLaws
