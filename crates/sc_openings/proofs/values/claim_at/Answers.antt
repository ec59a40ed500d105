use Rattle.std.proofs.Common.{◌-◌, length, map, sym, ap, ◌∙◌, arith}
use Rattle.std.proofs.lemmas.List.{length-map}
use Rattle.sc_definitions.specs.Ring.{plus}
use Rattle.sc_definitions.proofs.PowerSums.{poly_at-powers}
use Rattle.sc_field.proofs.RootLaws.{horner, value-none, value-all}
use Rattle.sc_openings.proofs.values.claim_at.Goals as goal

pub loop-i-init : goal.loop-i-init
loop-i-init g c =
    let f = g.EF.Field in
    let n = length c.args.claimed.now in
    ap f.number c.ZERO-claim.ensures ∙ g.met.EF.Field.zero_is
    ∙ sym (value-none f.ops (n - 0) (map f.number c.args.claimed.now) (f.number c.args.challenge) (length-map _ _ ∙ omega arith))

-- one value more, before the others
pub loop-i-preserved : goal.loop-i-preserved
loop-i-preserved g c =
    let f = g.EF.Field in
    let a = c.index-claimed-claimed.result in
    horner f.ops g.met.EF.Field.is_field.ring f.number c.args.claimed.now c.loop-i.i (f.number c.args.challenge) _ _ a c.loop-i-test.true c.index-claimed-claimed.is
    c.loop-i.invariant (c.add-claim.ensures ∙ ap (λ v. plus f.ops v (f.number a)) c.mul.ensures)

pub returns : goal.returns
returns g c =
    let f = g.EF.Field in
    let ns = map f.number c.args.claimed.now in
    value-all f.ops ns (f.number c.args.challenge) (f.number c.loop-i.claim) (length c.args.claimed.now - c.loop-i.i) c.loop-i.invariant
    (omega (arith, c.loop-i.auto.i-end, c.loop-i-test.false))
    ∙ poly_at-powers f.ops g.met.EF.Field.is_field.ring ns (f.number c.args.challenge)
