use Rattle.std.proofs.Common.{◌∙◌}
use Rattle.sc_definitions.specs.Tables.{entries}
use Rattle.sc_definitions.specs.Grids.{digit_zero, infinity}
use Rattle.sc_table.specs.Strategy.{order_of}
use Rattle.sc_partials.proofs.ProductLaws.{gains-two_variables, square-infinity}
use Rattle.sc_partials.proofs.products.add_of_two.Goals as goal

pub returns-clause-at_zero : goal.returns-clause-at_zero
returns-clause-at_zero g c =
    let e = g.EF.Field in
    let x = c.square_of-x.result in
    let y = c.square_of-y.result in
    gains-two_variables e.number e.ops g.met.EF.Field.is_field.ring (order_of c.args.order) (entries e.number c.args.table.now) (entries e.number c.args.weights.now)
    digit_zero x.low y.low c.args.at_zero.now c.add_pairs.new.sums
    (λ d. c.square_of-x.ensures d digit_zero) (λ d. c.square_of-y.ensures d digit_zero) c.add_pairs.ensures

pub returns-clause-at_infinity : goal.returns-clause-at_infinity
returns-clause-at_infinity g c =
    let e = g.EF.Field in
    let x = c.square_of-x.result in
    let y = c.square_of-y.result in
    gains-two_variables e.number e.ops g.met.EF.Field.is_field.ring (order_of c.args.order) (entries e.number c.args.table.now) (entries e.number c.args.weights.now)
    infinity c.pair_less.result c.pair_less-2.result c.args.at_infinity.now c.add_pairs-2.new.sums
    (λ d. square-infinity e.number e.ops x c.pair_less.result c.pair_less.ensures d ∙ c.square_of-x.ensures d infinity)
    (λ d. square-infinity e.number e.ops y c.pair_less-2.result c.pair_less-2.ensures d ∙ c.square_of-y.ensures d infinity) c.add_pairs-2.ensures
