use Rattle.std.proofs.Common.{rules}
use Rattle.std.proofs.lemmas.Result.{IfOk-from_err}
use Rattle.sc_definitions.specs.Seeds.{separator_bytes}
use Rattle.sc_challenger.proofs.separator.DomainSeparator.bytes.Goals as goal

-- the parts in their order
pub returns : goal.returns
unfolding separator_bytes
returns c = search rules

-- a refusal tells nothing of an answer
pub returns-in_err-push : goal.returns-in_err-push
returns-in_err-push c = IfOk-from_err c.from_residual.result _ c.from_residual.ensures.0

pub returns-in_err-push_length_prefixed : goal.returns-in_err-push_length_prefixed
returns-in_err-push_length_prefixed c = IfOk-from_err c.from_residual-in_err-push_length_prefixed.result _ c.from_residual-in_err-push_length_prefixed.ensures.0

pub returns-in_err-push_steps : goal.returns-in_err-push_steps
returns-in_err-push_steps c = IfOk-from_err c.from_residual-in_err-push_steps.result _ c.from_residual-in_err-push_steps.ensures.0

pub returns-in_err-push_length_prefixed-2 : goal.returns-in_err-push_length_prefixed-2
returns-in_err-push_length_prefixed-2 c = IfOk-from_err c.from_residual-in_err-push_length_prefixed-2.result _ c.from_residual-in_err-push_length_prefixed-2.ensures.0
