use Rattle.std.proofs.Common.{◌+◌, length, map, sym, ◌∙◌, ap, arith, length-append}
use Rattle.std.proofs.lemmas.Simd.{map-map}
use Rattle.sc_definitions.specs.Ring.{minus}
use Rattle.sc_definitions.specs.Polynomials.{poly_minus}
use Rattle.sc_merge_definitions.proofs.PlaceLaws.{minus-next, minus-end}
use Rattle.sc_matmul.proofs.verdict.excess_of.Goals as goal

pub loop-i-preserved : goal.loop-i-preserved
loop-i-preserved g c =
    let N = g.EF.Field.number in
    let o = g.EF.Field.ops in
    let image = λ (x : g.row.F.Denot). g.EF.Algebra.embedding (g.F.Field.number x) in
    let inv = c.loop-i.invariant in
    record {
      made = ap length c.push_reserved.ensures.items ∙ length-append c.loop-i.excess.items _ ∙ ap (λ n. n + 1) inv.made;
      room = omega (arith, c.push_reserved.ensures.capacity, inv.room);
      excess = minus-next image c.loop-i.i c.args.claimed.now c.args.product.now c.loop-i-test.true (omega (arith, c.loop-i-test.true, c.requires)) c.index-claimed-i.is c.index-product-i.is
          o N c.loop-i.excess.items c.push_reserved.ensures.items
          (c.sub.ensures ∙ ap (λ k. minus o k (N c.embed-actual.result)) c.embed-shown.ensures ∙ ap (minus o (image c.index-claimed-i.result)) c.embed-actual.ensures) inv.excess;
    }

pub returns : goal.returns
returns g c =
    let N = g.EF.Field.number in
    let o = g.EF.Field.ops in
    let emb = g.EF.Algebra.embedding in
    let base = g.F.Field.number in
    let image = λ (x : g.row.F.Denot). emb (base x) in
    let xs = c.args.claimed.now in
    let ys = c.args.product.now in
    minus-end image c.loop-i.i xs ys (omega (arith, c.loop-i-test.false)) o (map N c.loop-i.excess.items) c.loop-i.invariant.excess
    ∙ ap (λ l. poly_minus o l (map image ys)) (sym (map-map emb base xs)) ∙ ap (poly_minus o (map emb (map base xs))) (sym (map-map emb base ys))
