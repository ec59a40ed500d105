use Rattle.std.proofs.Common.{arith}
use Rattle.std.proofs.lemmas.Result.{IfOk-from_err}
use Rattle.std.proofs.lemmas.Grind.{common_steps}
use Rattle.sc_definitions.specs.Seeds.{nibbles}
use Rattle.sc_challenger.proofs.separator.nibbles.Goals as goal

-- a byte more is two words more
pub loop-byte-preserved : goal.loop-byte-preserved
unfolding nibbles
loop-byte-preserved c = grind (arith, common_steps)

-- a refusal tells nothing of an answer
pub returns-in_err-words-clause-words : goal.returns-in_err-words-clause-words
returns-in_err-words-clause-words c = IfOk-from_err c.from_residual.result _ c.from_residual.ensures.0

pub returns-in_err-words-clause-below : goal.returns-in_err-words-clause-below
returns-in_err-words-clause-below c = IfOk-from_err c.from_residual.result _ c.from_residual.ensures.0

pub returns-in_err-push-clause-words : goal.returns-in_err-push-clause-words
returns-in_err-push-clause-words c = IfOk-from_err c.from_residual-in_err-push.result _ c.from_residual-in_err-push.ensures.0

pub returns-in_err-push-clause-below : goal.returns-in_err-push-clause-below
returns-in_err-push-clause-below c = IfOk-from_err c.from_residual-in_err-push.result _ c.from_residual-in_err-push.ensures.0

pub returns-in_err-push-2-clause-words : goal.returns-in_err-push-2-clause-words
returns-in_err-push-2-clause-words c = IfOk-from_err c.from_residual-in_err-push-2.result _ c.from_residual-in_err-push-2.ensures.0

pub returns-in_err-push-2-clause-below : goal.returns-in_err-push-2-clause-below
returns-in_err-push-2-clause-below c = IfOk-from_err c.from_residual-in_err-push-2.result _ c.from_residual-in_err-push-2.ensures.0
