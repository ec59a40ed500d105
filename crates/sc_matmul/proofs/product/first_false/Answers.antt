use Rattle.std.proofs.Common.{sym, ◌∙◌, arith}
use Rattle.sc_merge_definitions.proofs.PlaceLaws.{first-next, first-here, first-end}
use Rattle.sc_matmul.proofs.product.first_false.Goals as goal

-- a false entry
pub returns-then-claimed-actual : goal.returns-then-claimed-actual
returns-then-claimed-actual g c =
    sym
    (c.loop-place.invariant
    ∙ first-here g.F.Field.number c.loop-place.place c.args.claimed.now c.args.product.now c.loop-place-test.true (omega (arith, c.loop-place-test.true, c.requires))
    c.index-claimed-place.is c.index-product-place.is c.index-claimed.ensures c.index-actual.ensures c.if-claimed-actual.true)

-- a true one
pub loop-place-preserved : goal.loop-place-preserved
loop-place-preserved g c =
    c.loop-place.invariant
    ∙ first-next g.F.Field.number c.loop-place.place c.args.claimed.now c.args.product.now c.loop-place-test.true (omega (arith, c.loop-place-test.true, c.requires))
    c.index-claimed-place.is c.index-product-place.is c.index-claimed.ensures c.index-actual.ensures c.if-claimed-actual.false

pub returns : goal.returns
returns g c = sym (c.loop-place.invariant ∙ first-end g.F.Field.number c.loop-place.place c.args.claimed.now c.args.product.now (omega (arith, c.loop-place-test.false)))
