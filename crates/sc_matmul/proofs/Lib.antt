pub mod SideLaws
pub mod EntryLaws
pub mod TableLaws
pub mod ReplayLaws
pub mod BuildLaws
pub mod AuditLaws
