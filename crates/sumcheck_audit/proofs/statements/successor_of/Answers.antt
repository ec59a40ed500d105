use Rattle.std.proofs.Common.{◌≡◌, ◌+◌, ◌<◌, All, length, map, ap, sym, subst, ◌∙◌, arith}
use Rattle.std.proofs.lemmas.Result.{IfOk-from_err}
use Rattle.sc_definitions.specs.Statements.{claims, successor}
use Rattle.sc_table.specs.Strategy.{order_of}
use Rattle.sumcheck_members.specs.Statements.{successor_statement, SuccessorFits}
use Rattle.sc_definitions.proofs.Lists.{read_has}
use Rattle.sumcheck_replies.proofs.NumberLaws.{pushed, as_long}
use Rattle.sumcheck_audit.proofs.statements.successor_of.Goals as goal

pub loop-claim-preserved : goal.loop-claim-preserved
loop-claim-preserved g c =
    let N = g.F.Field.number in
    let claim = c.claim-item.result in
    let selector : map N c.new-selector.result ≡ claim.selector = ap (map N) c.new-selector.ensures ∙ c.in_ok-elements.ensures ∙ c.as_slice.ensures in
    let point : map N c.new-point.result ≡ claim.point = ap (map N) c.new-point.ensures ∙ c.in_ok-elements-2.ensures ∙ c.as_slice-in-loop-claim.ensures in
    record {
      shown = pushed successor_statement c.args.claims.now c.loop-claim.claim-index claim (omega arith) _ _ _ c.loop-claim.invariant.shown
          c.in_ok-add_evaluated_constraint.ensures.ok
          (ap (λ s. claims (successor (order_of claim.order) s (map N c.new-point.result)) (N c.element-value.result)) selector
          ∙ ap (λ p. claims (successor (order_of claim.order) claim.selector p) (N c.element-value.result)) point
          ∙ ap (claims (successor (order_of claim.order) claim.selector claim.point)) c.element-value.ensures ∙ ap successor_statement c.claim-item.is);
      arity = c.in_ok-add_evaluated_constraint.ensures.arity ∙ c.loop-claim.invariant.arity;
    }

pub elements-requires : goal.elements-requires
elements-requires g c = subst (All (λ n. n < g.F.Field.ops.size)) (sym c.as_slice.ensures) (read_has (SuccessorFits g.F.Field.ops.size c.args.variables) c.args.claims.now c.loop-claim.claim-index c.claim-item.result c.requires (omega arith) c.claim-item.is).selector

pub elements-requires-in-loop-claim : goal.elements-requires-in-loop-claim
elements-requires-in-loop-claim g c = subst (All (λ n. n < g.F.Field.ops.size)) (sym c.as_slice-in-loop-claim.ensures) (read_has (SuccessorFits g.F.Field.ops.size c.args.variables) c.args.claims.now c.loop-claim.claim-index c.claim-item.result c.requires (omega arith) c.claim-item.is).point

pub element-value-requires : goal.element-value-requires
element-value-requires g c = (read_has (SuccessorFits g.F.Field.ops.size c.args.variables) c.args.claims.now c.loop-claim.claim-index c.claim-item.result c.requires (omega arith) c.claim-item.is).value

pub add_evaluated_constraint-requires : goal.add_evaluated_constraint-requires
add_evaluated_constraint-requires g c =
    let N = g.F.Field.number in
    let claim = c.claim-item.result in
    let selector : length c.new-selector.result ≡ length claim.selector = ap length c.new-selector.ensures ∙ as_long N c.in_ok-elements.field-0.items claim.selector (c.in_ok-elements.ensures ∙ c.as_slice.ensures) in
    let point : length c.new-point.result ≡ length claim.point = ap length c.new-point.ensures ∙ as_long N c.in_ok-elements-2.field-0.items claim.point (c.in_ok-elements-2.ensures ∙ c.as_slice-in-loop-claim.ensures) in
    ap (λ k. k + length c.new-point.result) selector ∙ ap (λ k. length claim.selector + k) point ∙ (read_has (SuccessorFits g.F.Field.ops.size c.args.variables) c.args.claims.now c.loop-claim.claim-index c.claim-item.result c.requires (omega arith) c.claim-item.is).arity ∙ sym c.loop-claim.invariant.arity

pub loop-claim-init : goal.loop-claim-init
loop-claim-init g c = record {
  shown = c.initialize-statement.ensures.none;
  arity = c.initialize-statement.ensures.arity;
}

-- a refusal tells nothing of an answer
pub returns-in_err-elements : goal.returns-in_err-elements
returns-in_err-elements g c = IfOk-from_err c.from_residual.result _ c.from_residual.ensures.0

pub returns-in_err-elements-2 : goal.returns-in_err-elements-2
returns-in_err-elements-2 g c = IfOk-from_err c.from_residual-in_err-elements-2.result _ c.from_residual-in_err-elements-2.ensures.0

pub returns-in_err-add_evaluated_constraint : goal.returns-in_err-add_evaluated_constraint
returns-in_err-add_evaluated_constraint g c = IfOk-from_err c.from_residual-in_err-add_evaluated_constraint.result _ c.from_residual-in_err-add_evaluated_constraint.ensures.0
