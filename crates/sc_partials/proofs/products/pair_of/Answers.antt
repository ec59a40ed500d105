use Rattle.std.proofs.Common.{arith, sym}
use Rattle.sc_definitions.specs.Tables.{entries}
use Rattle.sc_definitions.proofs.LoopLaws.{entry-read}
use Rattle.sc_partials.proofs.ProductLaws.{pair-values}
use Rattle.sc_partials.proofs.products.pair_of.Goals as goal

pub returns : goal.returns
returns g c order =
    let e = g.EF.Field in
    let xs = c.args.values.now in
    pair-values e.number e.ops order (entries e.number xs) _
    (sym (entry-read e.number xs 0 c.index-values-0.result (omega (arith, c.requires)) c.index-values-0.is))
    (sym (entry-read e.number xs 1 c.index-values-1.result (omega (arith, c.requires)) c.index-values-1.is))
