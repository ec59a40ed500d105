use Rattle.std.proofs.Common.{◌∙◌}
use Rattle.sc_definitions.specs.Tables.{entries}
use Rattle.sc_definitions.specs.Grids.{digit_zero, infinity}
use Rattle.sc_table.specs.Strategy.{order_of}
use Rattle.sc_partials.proofs.ProductLaws.{gains-three_variables, cube-infinity}
use Rattle.sc_partials.proofs.products.add_of_three.Goals as goal

pub returns-clause-at_zero : goal.returns-clause-at_zero
returns-clause-at_zero g c =
    let e = g.EF.Field in
    let x = c.cube_of-x.result in
    let y = c.cube_of-y.result in
    gains-three_variables e.number e.ops g.met.EF.Field.is_field.ring (order_of c.args.order) (entries e.number c.args.table.now) (entries e.number c.args.weights.now)
    digit_zero x.low y.low c.args.at_zero.now c.add_squares.new.sums
    (λ d s. c.cube_of-x.ensures d s digit_zero) (λ d s. c.cube_of-y.ensures d s digit_zero) c.add_squares.ensures

pub returns-clause-at_infinity : goal.returns-clause-at_infinity
returns-clause-at_infinity g c =
    let e = g.EF.Field in
    let x = c.cube_of-x.result in
    let y = c.cube_of-y.result in
    let xs = c.square_less.ensures in
    let ys = c.square_less-2.ensures in
    gains-three_variables e.number e.ops g.met.EF.Field.is_field.ring (order_of c.args.order) (entries e.number c.args.table.now) (entries e.number c.args.weights.now)
    infinity c.square_less.result c.square_less-2.result c.args.at_infinity.now c.add_squares-2.new.sums
    (λ d s. cube-infinity e.number e.ops x c.square_less.result xs.low xs.high d s ∙ c.cube_of-x.ensures d s infinity)
    (λ d s. cube-infinity e.number e.ops y c.square_less-2.result ys.low ys.high d s ∙ c.cube_of-y.ensures d s infinity) c.add_squares-2.ensures
