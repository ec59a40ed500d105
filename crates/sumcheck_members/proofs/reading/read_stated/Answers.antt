use Rattle.std.proofs.Common.{◌≡◌, Err, rules}
use Rattle.std.proofs.lemmas.Result.{IfOk-from_err}
use Rattle.serde_json.specs.View.{view}
use Rattle.sumcheck_members.specs.declared.member.Unread.TheVariants.{Misfit}
use Rattle.sumcheck_members.specs.Members.{member_name}
use Rattle.sumcheck_members.proofs.RestLaws.{rest_misfit, rest_ok}
use Rattle.sumcheck_members.proofs.reading.read_stated.Goals as goal

-- a refusal tells nothing of an answer
pub returns-in_err-challenger-clause-stated : goal.returns-in_err-challenger-clause-stated
returns-in_err-challenger-clause-stated c = IfOk-from_err c.from_residual.result _ c.from_residual.ensures.0

pub returns-in_err-challenger-clause-field : goal.returns-in_err-challenger-clause-field
returns-in_err-challenger-clause-field c = IfOk-from_err c.from_residual.result _ c.from_residual.ensures.0

pub returns-in_err-challenger-clause-fits : goal.returns-in_err-challenger-clause-fits
returns-in_err-challenger-clause-fits c = IfOk-from_err c.from_residual.result _ c.from_residual.ensures.0

pub returns-in_err-order-clause-stated : goal.returns-in_err-order-clause-stated
returns-in_err-order-clause-stated c = IfOk-from_err c.from_residual-in_err-order.result _ c.from_residual-in_err-order.ensures.0

pub returns-in_err-order-clause-field : goal.returns-in_err-order-clause-field
returns-in_err-order-clause-field c = IfOk-from_err c.from_residual-in_err-order.result _ c.from_residual-in_err-order.ensures.0

pub returns-in_err-order-clause-fits : goal.returns-in_err-order-clause-fits
returns-in_err-order-clause-fits c = IfOk-from_err c.from_residual-in_err-order.result _ c.from_residual-in_err-order.ensures.0

pub returns-in_err-bits-clause-stated : goal.returns-in_err-bits-clause-stated
returns-in_err-bits-clause-stated c = IfOk-from_err c.from_residual-in_err-bits.result _ c.from_residual-in_err-bits.ensures.0

pub returns-in_err-bits-clause-field : goal.returns-in_err-bits-clause-field
returns-in_err-bits-clause-field c = IfOk-from_err c.from_residual-in_err-bits.result _ c.from_residual-in_err-bits.ensures.0

pub returns-in_err-bits-clause-fits : goal.returns-in_err-bits-clause-fits
returns-in_err-bits-clause-fits c = IfOk-from_err c.from_residual-in_err-bits.result _ c.from_residual-in_err-bits.ensures.0

pub returns-in_err-table-clause-stated : goal.returns-in_err-table-clause-stated
returns-in_err-table-clause-stated c = IfOk-from_err c.from_residual-in_err-table.result _ c.from_residual-in_err-table.ensures.0

pub returns-in_err-table-clause-field : goal.returns-in_err-table-clause-field
returns-in_err-table-clause-field c = IfOk-from_err c.from_residual-in_err-table.result _ c.from_residual-in_err-table.ensures.0

pub returns-in_err-table-clause-fits : goal.returns-in_err-table-clause-fits
returns-in_err-table-clause-fits c = IfOk-from_err c.from_residual-in_err-table.result _ c.from_residual-in_err-table.ensures.0

-- a member after the table is told where the table is of its form
pub returns-in_err-variables-clause-misfit : goal.returns-in_err-variables-clause-misfit
returns-in_err-variables-clause-misfit c = λ m told.
    let is : c.read_rest-rest.result ≡ Err (Misfit m) = search rules in
    rest_misfit c.args.field c.args.sizes (view c.args.value) _ _ _ _ c.in_ok-challenger.ensures.ok c.in_ok-order.ensures.ok c.in_ok-bits.ensures.ok c.in_ok-table.ensures.ok (member_name m) (c.read_rest-rest.ensures.misfit m is)

pub returns-clause-stated : goal.returns-clause-stated
returns-clause-stated c =
    rest_ok c.args.field c.args.sizes (view c.args.value) _ _ _ _ c.in_ok-challenger.ensures.ok c.in_ok-order.ensures.ok c.in_ok-bits.ensures.ok c.in_ok-table.ensures.ok c.in_ok-variables.field-0 c.in_ok-variables.ensures.rest
