use Rattle.std.proofs.Common.{sym, ◌∙◌, ap}
use Rattle.sc_definitions.specs.Ring.{plus, times}
use Rattle.sc_definitions.specs.Tables.{entries}
use Rattle.sc_definitions.proofs.LoopLaws.{entry-read}
use Rattle.sc_circuit.specs.Phases.{given_factor, given_rest}
use Rattle.sc_circuit.proofs.ShareLaws.{given-at, given-nothing}
use Rattle.sc_circuit.proofs.walk.add_share.Goals as goal

pub returns-then-product-clause-factors : goal.returns-then-product-clause-factors
unfolding given_factor
returns-then-product-clause-factors g c =
    let e = g.EF.Field in
    let xs = c.args.factors.now in
    let p = c.args.place in
    let read = entry-read e.number xs p c.index-factors-place.result c.requires.factors c.index-factors-place.is in
    let is = c.add.ensures ∙ ap (λ n. plus e.ops n (e.number c.mul.result)) (sym read) ∙ ap (plus e.ops (entries e.number xs p)) c.mul.ensures in
    rw c.if-product.true (given-at e.ops g.met.EF.Field.is_field.ring e.number g.met.EF.Field.number_below xs p c.add.result
    (times e.ops (e.number c.args.weight) (e.number c.args.value)) c.requires.factors is)

pub returns-then-product-clause-rests : goal.returns-then-product-clause-rests
unfolding given_rest
returns-then-product-clause-rests g c =
    let e = g.EF.Field in
    rw c.if-product.true (given-nothing e.ops g.met.EF.Field.is_field.ring e.number g.met.EF.Field.number_below c.args.rests.now c.args.place)

pub returns-else-product-clause-factors : goal.returns-else-product-clause-factors
unfolding given_factor
returns-else-product-clause-factors g c =
    let e = g.EF.Field in
    let xs = c.args.factors.now in
    let p = c.args.place in
    let read = entry-read e.number xs p c.index-factors-place-else-product.result c.requires.factors c.index-factors-place-else-product.is in
    let is = c.add-else-product.ensures ∙ ap (λ n. plus e.ops n (e.number c.args.weight)) (sym read) in
    rw c.if-product.false (given-at e.ops g.met.EF.Field.is_field.ring e.number g.met.EF.Field.number_below xs p c.add-else-product.result
    (e.number c.args.weight) c.requires.factors is)

pub returns-else-product-clause-rests : goal.returns-else-product-clause-rests
unfolding given_rest
returns-else-product-clause-rests g c =
    let e = g.EF.Field in
    let xs = c.args.rests.now in
    let p = c.args.place in
    let read = entry-read e.number xs p c.index-rests-place.result c.requires.rests c.index-rests-place.is in
    let is = c.add-else-product-2.ensures ∙ ap (λ n. plus e.ops n (e.number c.mul-else-product.result)) (sym read) ∙ ap (plus e.ops (entries e.number xs p)) c.mul-else-product.ensures in
    rw c.if-product.false (given-at e.ops g.met.EF.Field.is_field.ring e.number g.met.EF.Field.number_below xs p c.add-else-product-2.result
    (times e.ops (e.number c.args.weight) (e.number c.args.value)) c.requires.rests is)
