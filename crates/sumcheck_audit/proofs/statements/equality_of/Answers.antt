use Rattle.std.proofs.Common.{◌≡◌, ◌<◌, All, length, map, ap, sym, subst, ◌∙◌, arith}
use Rattle.std.proofs.lemmas.Result.{IfOk-from_err}
use Rattle.sc_definitions.specs.Statements.{claims, equality}
use Rattle.sumcheck_members.specs.Statements.{equality_statement, EqualityFits}
use Rattle.sc_definitions.proofs.Lists.{read_has}
use Rattle.sumcheck_replies.proofs.NumberLaws.{pushed, as_long}
use Rattle.sumcheck_audit.proofs.statements.equality_of.Goals as goal

pub loop-claim-preserved : goal.loop-claim-preserved
loop-claim-preserved g c =
    let N = g.F.Field.number in
    let claim = c.claim-item.result in
    let point : map N c.new.result ≡ claim.point = ap (map N) c.new.ensures ∙ c.in_ok-coords.ensures ∙ c.as_slice.ensures in
    record {
      shown = pushed equality_statement c.args.claims.now c.loop-claim.claim-index claim (omega arith) _ _ _ c.loop-claim.invariant.shown
          c.in_ok-add_evaluated_constraint.ensures.ok
          (ap (λ p. claims (equality p) (N c.element.result)) point ∙ ap (claims (equality claim.point)) c.element.ensures ∙ ap equality_statement c.claim-item.is);
      arity = c.in_ok-add_evaluated_constraint.ensures.arity ∙ c.loop-claim.invariant.arity;
    }

pub elements-requires : goal.elements-requires
elements-requires g c = subst (All (λ n. n < g.F.Field.ops.size)) (sym c.as_slice.ensures) (read_has (EqualityFits g.F.Field.ops.size c.args.variables) c.args.claims.now c.loop-claim.claim-index c.claim-item.result c.requires (omega arith) c.claim-item.is).point

pub element-requires : goal.element-requires
element-requires g c = (read_has (EqualityFits g.F.Field.ops.size c.args.variables) c.args.claims.now c.loop-claim.claim-index c.claim-item.result c.requires (omega arith) c.claim-item.is).value

pub add_evaluated_constraint-requires : goal.add_evaluated_constraint-requires
add_evaluated_constraint-requires g c =
    ap length c.new.ensures ∙ as_long g.F.Field.number c.in_ok-coords.coords.items c.claim-item.result.point (c.in_ok-coords.ensures ∙ c.as_slice.ensures)
    ∙ (read_has (EqualityFits g.F.Field.ops.size c.args.variables) c.args.claims.now c.loop-claim.claim-index c.claim-item.result c.requires (omega arith) c.claim-item.is).arity ∙ sym c.loop-claim.invariant.arity

pub loop-claim-init : goal.loop-claim-init
loop-claim-init g c = record {
  shown = c.initialize-statement.ensures.none;
  arity = c.initialize-statement.ensures.arity;
}

-- a refusal tells nothing of an answer
pub returns-in_err-coords : goal.returns-in_err-coords
returns-in_err-coords g c = IfOk-from_err c.from_residual.result _ c.from_residual.ensures.0

pub returns-in_err-add_evaluated_constraint : goal.returns-in_err-add_evaluated_constraint
returns-in_err-add_evaluated_constraint g c = IfOk-from_err c.from_residual-in_err-add_evaluated_constraint.result _ c.from_residual-in_err-add_evaluated_constraint.ensures.0
