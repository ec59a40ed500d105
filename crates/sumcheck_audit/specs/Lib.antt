pub mod Job
pub mod Report
pub mod CertifiedJobs
pub mod Claimed
