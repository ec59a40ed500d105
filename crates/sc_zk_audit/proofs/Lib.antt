pub mod MaskedRounds
pub mod RefusalLaws
pub mod AnswerLaws
