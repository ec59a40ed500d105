pub mod MaskedCases
pub mod MaskedJobs
pub mod MaskedRefusals
pub mod MaskedReports
pub mod MaskedAudits
