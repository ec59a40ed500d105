use Rattle.std.proofs.lemmas.Result.{IfOk-from_err}
use Rattle.sc_challenger.proofs.separator.DomainSeparator.seed_words.Goals as goal

-- a refusal tells nothing of an answer
pub returns-in_err-bytes-clause-words : goal.returns-in_err-bytes-clause-words
returns-in_err-bytes-clause-words c = IfOk-from_err c.from_residual.result _ c.from_residual.ensures.0

pub returns-in_err-bytes-clause-below : goal.returns-in_err-bytes-clause-below
returns-in_err-bytes-clause-below c = IfOk-from_err c.from_residual.result _ c.from_residual.ensures.0
