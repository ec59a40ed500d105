use Rattle.std.proofs.Common.{get_or, ap, ◌∙◌, arith}
use Rattle.std.proofs.lemmas.Result.{IfOk-from_err}
use Rattle.std.proofs.lemmas.List.Elements.{All-get_or}
use Rattle.sc_definitions.specs.Statements.{claims, powers}
use Rattle.sumcheck_members.specs.declared.job.ScalarClaim.{ScalarClaim}
use Rattle.sumcheck_members.specs.Statements.{scalar_statement, ScalarFits}
use Rattle.sumcheck_replies.proofs.NumberLaws.{pushed}
use Rattle.sumcheck_audit.proofs.statements.scalars_of.Goals as goal

-- what is read past the end
abbrev past : ScalarClaim
past = record { scalar = 0; value = 0 }

pub loop-claim-preserved : goal.loop-claim-preserved
loop-claim-preserved g c =
    let embedding = g.EF.Algebra.embedding in
    let claim : ScalarClaim = get_or c.args.claims.now c.loop-claim.claim-index past in
    record {
      shown = pushed (scalar_statement embedding) c.args.claims.now c.loop-claim.claim-index past (omega arith) _ _ _ c.loop-claim.invariant.shown
          c.in_ok-add_constraint.ensures.ok
          (ap (λ x. claims (powers (embedding x)) (g.EF.Field.number c.element-in-loop-claim.result)) c.element.ensures ∙ ap (claims (powers (embedding claim.scalar))) c.element-in-loop-claim.ensures);
      arity = c.in_ok-add_constraint.ensures.arity ∙ c.loop-claim.invariant.arity;
      kind = c.in_ok-add_constraint.ensures.no_points;
    }

pub element-requires : goal.element-requires
element-requires g c =
    (All-get_or (ScalarFits (record { base = g.F.Field.ops.size; extension = g.EF.Field.ops.size })) c.args.claims.now c.loop-claim.claim-index past (omega arith) c.requires).scalar

pub element-requires-in-loop-claim : goal.element-requires-in-loop-claim
element-requires-in-loop-claim g c =
    (All-get_or (ScalarFits (record { base = g.F.Field.ops.size; extension = g.EF.Field.ops.size })) c.args.claims.now c.loop-claim.claim-index past (omega arith) c.requires).value

pub loop-claim-init : goal.loop-claim-init
loop-claim-init g c = record {
  shown = c.initialize-statement.ensures.none;
  arity = c.initialize-statement.ensures.arity;
  kind = c.initialize-statement.ensures.no_points;
}

-- a refusal tells nothing of an answer
pub returns-in_err-add_constraint : goal.returns-in_err-add_constraint
returns-in_err-add_constraint g c = IfOk-from_err c.from_residual.result _ c.from_residual.ensures.0
