pub mod ArityLaws
