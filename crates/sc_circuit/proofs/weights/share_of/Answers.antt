use Rattle.std.proofs.Common.{if◌then◌else◌, sym, ◌∙◌, ap}
use Rattle.sc_circuit.proofs.WeightLaws.{kind-same, kind-other}
use Rattle.sc_circuit.proofs.weights.share_of.Goals as goal

pub returns-then-gate-product : goal.returns-then-gate-product
returns-then-gate-product g c =
    let s = g.EF.Field.number c.args.share in
    ap (λ b. if b then s else 0) (sym (kind-same c.args.gate.product c.args.product c.if-gate-product.true))

pub returns-else-gate-product : goal.returns-else-gate-product
returns-else-gate-product g c =
    let s = g.EF.Field.number c.args.share in
    ap g.EF.Field.number c.ZERO.ensures ∙ g.met.EF.Field.zero_is
    ∙ ap (λ b. if b then s else 0) (sym (kind-other c.args.gate.product c.args.product c.if-gate-product.false))
