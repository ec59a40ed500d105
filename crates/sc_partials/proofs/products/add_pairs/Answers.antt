use Rattle.sc_partials.proofs.ProductLaws.{gains-pairs}
use Rattle.sc_partials.proofs.products.add_pairs.Goals as goal

pub returns : goal.returns
returns g c =
    let e = g.EF.Field in
    gains-pairs e.number e.ops c.args.from c.args.x c.args.y (e.number c.sub.result) (e.number c.sub-2.result)
    c.args.sums.now c.add_product.new.sums c.add_product-2.new.sums c.add_product-3.new.sums
    c.add_product.ensures c.add_product-2.ensures c.add_product-3.ensures c.sub.ensures c.sub-2.ensures
