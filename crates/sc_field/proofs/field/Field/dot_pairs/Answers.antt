use Rattle.std.proofs.Common.{◌≡◌, ◌+◌, ◌*◌, ◌∙◌, ap, arith}
use Rattle.sc_definitions.proofs.LoopLaws.{entry-read}
use Rattle.sc_field.specs.Products.{differences, even_rows, odd_rows}
use Rattle.sc_field.proofs.DotLaws.{products-none, products-more, products-all}
use Rattle.sc_field.proofs.field.Field.dot_pairs.Goals as goal

pub loop-b-init : goal.loop-b-init
loop-b-init g c = record {
  even = products-none _ _ _ _ (ap g.Self.Field.number c.ZERO-even.ensures ∙ g.met.Self.Field.zero_is);
  difference = products-none _ _ _ _ (ap g.Self.Field.number c.ZERO-difference.ensures ∙ g.met.Self.Field.zero_is);
}

pub loop-b-preserved : goal.loop-b-preserved
unfolding differences even_rows odd_rows
loop-b-preserved g c =
    let f = g.Self.Field in
    let number = f.number in
    let b = c.loop-b.b in
    let xs = c.args.xs.now in
    let ys = c.args.ys.now in
    let x0 = entry-read number xs (2 * b) c.index-xs-b.result (omega arith) c.index-xs-b.is in
    let x1 = entry-read number xs (2 * b + 1) c.index-xs-b-in-loop-b.result (omega arith) c.index-xs-b-in-loop-b.is in
    let y0 = entry-read f.number ys (2 * b) c.index-ys-b.result (omega arith) c.index-ys-b.is in
    let y1 = entry-read f.number ys (2 * b + 1) c.index-ys-b-in-loop-b.result (omega arith) c.index-ys-b-in-loop-b.is in
    record {
      even = products-more f.ops _ _ b _ _ c.loop-b.invariant.even (cc (c.add-even.ensures, c.mul.ensures, x0, y0));
      difference = products-more f.ops _ _ b _ _ c.loop-b.invariant.difference
          (cc (c.add-difference.ensures, c.mul-in-loop-b.ensures, c.sub.ensures, c.sub-in-loop-b.ensures, x0, x1, y0, y1));
    }

pub returns : goal.returns
returns g c =
    let done : c.loop-b.b ≡ c.args.pairs = omega (arith, c.loop-b.auto, c.loop-b-test) in
    record {
      even = products-all _ _ _ done c.loop-b.invariant.even;
      difference = products-all _ _ _ done c.loop-b.invariant.difference;
    }
