use Rattle.std.proofs.Common.{◌≡◌, ◌<◌, All, length, map, ap, sym, subst, ◌∙◌, arith}
use Rattle.std.proofs.lemmas.Result.{IfOk-from_err}
use Rattle.sc_definitions.specs.Statements.{claims, products}
use Rattle.sumcheck_members.specs.Statements.{product_statement, ProductFits}
use Rattle.sc_definitions.proofs.Lists.{read_has}
use Rattle.sumcheck_replies.proofs.NumberLaws.{pushed, as_long}
use Rattle.sumcheck_audit.proofs.GroupLaws.{embedded_numbers}
use Rattle.sumcheck_audit.proofs.statements.products_of.Goals as goal

pub loop-claim-preserved : goal.loop-claim-preserved
loop-claim-preserved g c =
    let embedding = g.EF.Algebra.embedding in
    let N = g.F.Field.number in
    let claim = c.claim-item.result in
    let point : map (λ x. embedding (N x)) c.new-point.result ≡ map embedding claim.point =
    ap (map (λ x. embedding (N x))) c.new-point.ensures ∙ embedded_numbers embedding N c.in_ok-elements.field-0.items claim.point (c.in_ok-elements.ensures ∙ c.as_slice.ensures) in
    record {
      shown = pushed (product_statement embedding) c.args.claims.now c.loop-claim.claim-index claim (omega arith) _ _ _ c.loop-claim.invariant.shown
          c.in_ok-add_point_constraint.ensures.ok
          (ap (λ ps. claims (products ps) (g.EF.Field.number c.element.result)) point ∙ ap (claims (products (map embedding claim.point))) c.element.ensures ∙ ap (product_statement embedding) c.claim-item.is);
      arity = c.in_ok-add_point_constraint.ensures.arity ∙ c.loop-claim.invariant.arity;
      kind = c.in_ok-add_point_constraint.ensures.no_scalars;
    }

pub elements-requires : goal.elements-requires
elements-requires g c =
    let fits = read_has (ProductFits (record { base = g.F.Field.ops.size; extension = g.EF.Field.ops.size }) c.args.variables) c.args.claims.now c.loop-claim.claim-index c.claim-item.result c.requires (omega arith) c.claim-item.is in
    subst (All (λ n. n < g.F.Field.ops.size)) (sym c.as_slice.ensures) fits.point

pub element-requires : goal.element-requires
element-requires g c = (read_has (ProductFits (record { base = g.F.Field.ops.size; extension = g.EF.Field.ops.size }) c.args.variables) c.args.claims.now c.loop-claim.claim-index c.claim-item.result c.requires (omega arith) c.claim-item.is).value

pub add_point_constraint-requires-clause-arity : goal.add_point_constraint-requires-clause-arity
add_point_constraint-requires-clause-arity g c =
    let fits = read_has (ProductFits (record { base = g.F.Field.ops.size; extension = g.EF.Field.ops.size }) c.args.variables) c.args.claims.now c.loop-claim.claim-index c.claim-item.result c.requires (omega arith) c.claim-item.is in
    ap length c.new-point.ensures ∙ as_long g.F.Field.number c.in_ok-elements.field-0.items c.claim-item.result.point (c.in_ok-elements.ensures ∙ c.as_slice.ensures)
    ∙ fits.arity ∙ sym c.loop-claim.invariant.arity

pub loop-claim-init : goal.loop-claim-init
loop-claim-init g c = record {
  shown = c.initialize-statement.ensures.none;
  arity = c.initialize-statement.ensures.arity;
  kind = c.initialize-statement.ensures.no_scalars;
}

-- a refusal tells nothing of an answer
pub returns-in_err-elements : goal.returns-in_err-elements
returns-in_err-elements g c = IfOk-from_err c.from_residual.result _ c.from_residual.ensures.0

pub returns-in_err-add_point_constraint : goal.returns-in_err-add_point_constraint
returns-in_err-add_point_constraint g c = IfOk-from_err c.from_residual-in_err-add_point_constraint.result _ c.from_residual-in_err-add_point_constraint.ensures.0
