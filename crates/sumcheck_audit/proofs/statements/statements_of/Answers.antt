use Rattle.std.proofs.lemmas.Result.{IfOk-from_err}
use Rattle.sumcheck_audit.proofs.statements.statements_of.Goals as goal

-- a refusal tells nothing of an answer
pub returns-in_err-statement-in-Equality : goal.returns-in_err-statement-in-Equality
returns-in_err-statement-in-Equality g c = IfOk-from_err c.from_residual.result _ c.from_residual.ensures.0

pub returns-in_err-statement-in-Successor : goal.returns-in_err-statement-in-Successor
returns-in_err-statement-in-Successor g c = IfOk-from_err c.from_residual-in_err-statement-in-Successor.result _ c.from_residual-in_err-statement-in-Successor.ensures.0

pub returns-in_err-statement-in-Scalars : goal.returns-in_err-statement-in-Scalars
returns-in_err-statement-in-Scalars g c = IfOk-from_err c.from_residual-in_err-statement-in-Scalars.result _ c.from_residual-in_err-statement-in-Scalars.ensures.0

pub returns-in_err-statement-in-Products : goal.returns-in_err-statement-in-Products
returns-in_err-statement-in-Products g c = IfOk-from_err c.from_residual-in_err-statement-in-Products.result _ c.from_residual-in_err-statement-in-Products.ensures.0
