pub mod TableShapes
pub mod ProductRoundLaws
pub mod AnswerLaws
pub mod CertifiedRounds
pub mod ResultLaws
