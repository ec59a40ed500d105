pub mod JobLaws
pub mod GroupLaws
pub mod OfferedJobs
pub mod BuildReplies
pub mod CertifiedLaws
pub mod ReportLaws
pub mod AuditLaws
