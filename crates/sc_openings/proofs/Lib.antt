pub mod ShapeLaws
pub mod ValueLaws
pub mod WeightLaws
pub mod VerdictLaws
pub mod ReplayLaws
pub mod BuildLaws
pub mod AuditLaws
