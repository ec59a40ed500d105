pub mod ProductLaws
pub mod InverseLaws
pub mod PairLaws
pub mod DelayedLaws
pub mod DelayedPairs
pub mod TotalLaws
