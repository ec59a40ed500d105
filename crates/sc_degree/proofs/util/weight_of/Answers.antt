use Rattle.std.proofs.Common.{◌≡◌, ◌+◌, sym, ◌∙◌, ap, subst, arith}
use Rattle.sc_definitions.specs.Ring.{element, times, minus}
use Rattle.sc_definitions.specs.Polynomials.{poly_at}
use Rattle.sc_definitions.specs.Interpolation.{others}
use Rattle.sc_definitions.proofs.RingLaws.{element-zero, times_comm}
use Rattle.sc_degree.proofs.LagrangeLaws.{IsApart, apart-none, apart-own, apart-more}
use Rattle.sc_degree.proofs.util.weight_of.Goals as goal
use Rattle.sc_degree.proofs.util.weight_of.Goals.{then-other-node, else-other-node}

pub loop-other-init : goal.loop-other-init
loop-other-init g c = apart-none g.EF.Field.ops g.met.EF.Field.is_field c.args.node _ (ap g.EF.Field.number c.ONE-product.ensures ∙ g.met.EF.Field.one_is)

pub loop-other-preserved : goal.loop-other-preserved
loop-other-preserved g c =
    let e = g.EF.Field in
    let field = g.met.EF.Field.is_field in
    let node = c.args.node in
    let other = c.loop-other.other in
    elim c.if-other-node.branch [
      | then-other-node w ↦
          let gap = w.sub.ensures ∙ ap (λ n. minus e.ops n (e.number w.interpolation_node.result)) c.interpolation_node-at.ensures ∙ ap (minus e.ops node) w.interpolation_node.ensures in
          apart-more e.ops field node other _ _ c.loop-other.invariant (λ same. w.if-other-node.true (sym same)) (omega (arith, c.requires.within, c.requires.few))
          (omega (arith, c.loop-other-test.true, c.requires.few))
          (ap e.number w.product-is ∙ w.mul-product.ensures ∙ ap (times e.ops (e.number c.loop-other.product)) gap)
      | else-other-node w ↦
          subst (λ p. IsApart e.ops node (other + 1) (e.number p)) (sym w.product-is)
          (apart-own e.ops field node other _ c.loop-other.invariant (sym w.if-other-node.false))
    ]

pub unreachable-requires : goal.unreachable-requires
unreachable-requires g c =
    let e = g.EF.Field in
    let ring = g.met.EF.Field.is_field.ring in
    c.loop-other.invariant.apart (ap (element e.ops) (c.inverse.ensures.none.0 c.in-None.is) ∙ element-zero e.ops ring)

pub returns : goal.returns
returns g c =
    let e = g.EF.Field in
    let ring = g.met.EF.Field.is_field.ring in
    let node = c.args.node in
    let weight = e.number c.in-Some.weight in
    let all : c.loop-other.other ≡ c.args.nodes = omega (arith, c.loop-other-test.false, c.loop-other.auto.other-end) in
    ap (λ n. times e.ops weight (poly_at e.ops (others e.ops node n) node)) (sym all)
    ∙ times_comm e.ops ring weight (poly_at e.ops (others e.ops node c.loop-other.other) node)
    ∙ ap (λ p. times e.ops p weight) (sym c.loop-other.invariant.is)
    ∙ c.in-Some.ensures.product
