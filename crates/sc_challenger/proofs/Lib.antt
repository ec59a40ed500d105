pub mod ListReads
pub mod SortedLists
pub mod StateLemmas
