use Rattle.std.proofs.Common.{arith, ◌≡◌}
use Rattle.std.proofs.lemmas.Result.{IfOk-from_err}
use Rattle.std.proofs.lemmas.List.Elements.{All-push}
use Rattle.sc_constraints.specs.Groups.{group_arity, group_statements}
use Rattle.sumcheck_members.specs.Statements.{group_claims}
use Rattle.sumcheck_audit.proofs.GroupLaws.{flat_map-read}
use Rattle.sumcheck_audit.proofs.statements.constraint_of.Goals as goal

pub loop-group-preserved : goal.loop-group-preserved
loop-group-preserved g c = record {
  shown = rw c.in_ok-push.ensures.items (flat_map-read (group_statements (λ x. g.EF.Algebra.embedding (g.F.Field.number x)) g.EF.Field.number) (group_claims g.EF.Algebra.embedding) c.loop-group.made.items c.args.groups.now
      c.in_ok-statements_of.field-0 c.group-item.result c.loop-group.group-index (omega arith) c.group-item.is c.loop-group.invariant.shown c.in_ok-statements_of.ensures.0);
  arity = rw c.in_ok-push.ensures.items (All-push (λ s. group_arity s ≡ c.args.variables) c.loop-group.made.items c.in_ok-statements_of.field-0
      c.loop-group.invariant.arity c.in_ok-statements_of.ensures.1);
}

-- a refusal tells nothing of an answer
pub returns-in_err-made-clause-states : goal.returns-in_err-made-clause-states
returns-in_err-made-clause-states g c = IfOk-from_err c.from_residual.result _ c.from_residual.ensures.0

pub returns-in_err-made-clause-batched : goal.returns-in_err-made-clause-batched
returns-in_err-made-clause-batched g c = IfOk-from_err c.from_residual.result _ c.from_residual.ensures.0

pub returns-in_err-statements_of-clause-states : goal.returns-in_err-statements_of-clause-states
returns-in_err-statements_of-clause-states g c = IfOk-from_err c.from_residual-in_err-statements_of.result _ c.from_residual-in_err-statements_of.ensures.0

pub returns-in_err-statements_of-clause-batched : goal.returns-in_err-statements_of-clause-batched
returns-in_err-statements_of-clause-batched g c = IfOk-from_err c.from_residual-in_err-statements_of.result _ c.from_residual-in_err-statements_of.ensures.0

pub returns-in_err-push-clause-states : goal.returns-in_err-push-clause-states
returns-in_err-push-clause-states g c = IfOk-from_err c.from_residual-in_err-push.result _ c.from_residual-in_err-push.ensures.0

pub returns-in_err-push-clause-batched : goal.returns-in_err-push-clause-batched
returns-in_err-push-clause-batched g c = IfOk-from_err c.from_residual-in_err-push.result _ c.from_residual-in_err-push.ensures.0
