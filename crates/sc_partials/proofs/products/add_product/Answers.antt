use Rattle.sc_definitions.specs.Ring.{times}
use Rattle.sc_definitions.proofs.LoopLaws.{entry-read}
use Rattle.sc_partials.proofs.ProductLaws.{gains-one}
use Rattle.sc_partials.proofs.products.add_product.Goals as goal

pub returns : goal.returns
returns g c =
    let e = g.EF.Field in
    let xs = c.args.sums.now in
    let row = entry-read e.number xs c.args.place c.index-sums-place.result c.requires c.index-sums-place.is in
    gains-one e.number e.ops c.args.place (λ k. times e.ops (e.number c.args.x) (e.number c.args.y)) xs c.add.result c.requires (cc (c.add.ensures, c.mul.ensures, row))
