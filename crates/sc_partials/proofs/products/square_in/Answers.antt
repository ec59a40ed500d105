use Rattle.std.proofs.Common.{◌+◌, arith, sym}
use Rattle.sc_definitions.proofs.LoopLaws.{entry-read}
use Rattle.sc_partials.proofs.products.square_in.Goals as goal

pub returns : goal.returns
returns g c =
    let e = g.EF.Field in
    let xs = c.args.values.now in
    record {
      neither = sym (entry-read e.number xs c.args.from c.index-values-from.result (omega (arith, c.requires)) c.index-values-from.is);
      one = sym (entry-read e.number xs (c.args.from + c.args.first) c.index-values-from-2.result (omega (arith, c.requires)) c.index-values-from-2.is);
      other = sym (entry-read e.number xs (c.args.from + c.args.second) c.index-values-from-3.result (omega (arith, c.requires)) c.index-values-from-3.is);
      both = sym (entry-read e.number xs (c.args.from + c.args.first + c.args.second) c.index-values-from-4.result c.requires c.index-values-from-4.is);
    }
