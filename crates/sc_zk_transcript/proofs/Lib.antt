pub mod SeedLaws
pub mod HeadLaws
