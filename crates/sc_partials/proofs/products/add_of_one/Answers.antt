use Rattle.std.proofs.Common.{◌∙◌}
use Rattle.sc_definitions.specs.Tables.{entries}
use Rattle.sc_definitions.specs.Grids.{digit_zero, infinity}
use Rattle.sc_partials.proofs.ProductLaws.{gains-one_variable}
use Rattle.sc_partials.proofs.products.add_of_one.Goals as goal

pub returns-clause-at_zero : goal.returns-clause-at_zero
returns-clause-at_zero g c order =
    let e = g.EF.Field in
    gains-one_variable e.number e.ops g.met.EF.Field.is_field.ring order (entries e.number c.args.table.now) (entries e.number c.args.weights.now) digit_zero _ _
    c.args.at_zero.now c.add_product.new.sums (c.pair_of-x.ensures order digit_zero) (c.pair_of-y.ensures order digit_zero) c.add_product.ensures

pub returns-clause-at_infinity : goal.returns-clause-at_infinity
returns-clause-at_infinity g c order =
    let e = g.EF.Field in
    gains-one_variable e.number e.ops g.met.EF.Field.is_field.ring order (entries e.number c.args.table.now) (entries e.number c.args.weights.now) infinity
    (e.number c.sub.result) (e.number c.sub-2.result) c.args.at_infinity.now c.add_product-2.new.sums
    (c.sub.ensures ∙ c.pair_of-x.ensures order infinity) (c.sub-2.ensures ∙ c.pair_of-y.ensures order infinity) c.add_product-2.ensures
