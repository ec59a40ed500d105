use Rattle.sc_partials.proofs.ProductLaws.{gains-squares}
use Rattle.sc_partials.proofs.products.add_squares.Goals as goal

pub returns : goal.returns
returns g c =
    let e = g.EF.Field in
    gains-squares e.number e.ops c.args.x c.args.y c.pair_less.result c.pair_less-2.result
    c.args.sums.now c.add_pairs.new.sums c.add_pairs-2.new.sums c.add_pairs-3.new.sums
    c.add_pairs.ensures c.add_pairs-2.ensures c.add_pairs-3.ensures c.pair_less.ensures c.pair_less-2.ensures
