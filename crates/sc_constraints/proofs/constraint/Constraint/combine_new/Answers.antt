use Rattle.std.proofs.Common.{◌∙◌, ap}
use Rattle.std.proofs.lemmas.Result.{IfOk-from_err}
use Rattle.sc_table.specs.Polys.{table_of}
use Rattle.sc_statements.proofs.BatchSteps.{WritesBatch-cleared, claim-alone}
use Rattle.sc_constraints.proofs.constraint.Constraint.combine_new.Goals as goal

pub returns-clause-weights : goal.returns-clause-weights
returns-clause-weights g c =
    let f = g.EF.Field in
    (WritesBatch-cleared f.ops g.met.EF.Field.is_field.ring _ _ _ _ (table_of f.number c.in_ok-combined.combined) _ _ _ (λ b _. c.in_ok-combined.ensures.table b) c.in_ok-combine.ensures.ok).weights

pub returns-clause-claim : goal.returns-clause-claim
returns-clause-claim g c =
    let f = g.EF.Field in
    claim-alone f.ops g.met.EF.Field.is_field.ring _ _ _ (ap f.number c.ZERO-eval.ensures ∙ g.met.EF.Field.zero_is) c.in_ok-combine.ensures.ok.sum

-- a refusal tells nothing of an answer
pub returns-in_err-combined-clause-variables : goal.returns-in_err-combined-clause-variables
returns-in_err-combined-clause-variables g c = IfOk-from_err c.from_residual.result _ c.from_residual.ensures.0

pub returns-in_err-combined-clause-weights : goal.returns-in_err-combined-clause-weights
returns-in_err-combined-clause-weights g c = IfOk-from_err c.from_residual.result _ c.from_residual.ensures.0

pub returns-in_err-combined-clause-claim : goal.returns-in_err-combined-clause-claim
returns-in_err-combined-clause-claim g c = IfOk-from_err c.from_residual.result _ c.from_residual.ensures.0

pub returns-in_err-combine-clause-variables : goal.returns-in_err-combine-clause-variables
returns-in_err-combine-clause-variables g c = IfOk-from_err c.from_residual-in_err-combine.result _ c.from_residual-in_err-combine.ensures.0

pub returns-in_err-combine-clause-weights : goal.returns-in_err-combine-clause-weights
returns-in_err-combine-clause-weights g c = IfOk-from_err c.from_residual-in_err-combine.result _ c.from_residual-in_err-combine.ensures.0

pub returns-in_err-combine-clause-claim : goal.returns-in_err-combine-clause-claim
returns-in_err-combine-clause-claim g c = IfOk-from_err c.from_residual-in_err-combine.result _ c.from_residual-in_err-combine.ensures.0
