use Rattle.std.proofs.Common.{◌≡◌, ℕ, ◌+◌, ◌*◌, ◌∙◌, ap, arith}
use Rattle.sc_definitions.specs.Ring.{plus, times, minus}
use Rattle.sc_definitions.specs.Tables.{entries}
use Rattle.sc_definitions.proofs.LoopLaws.{entry-read}
use Rattle.sc_definitions.proofs.Maps.{map-minus}
use Rattle.sc_definitions.proofs.RingLaws.{times_comm}
use Rattle.sc_field.specs.Products.{differences, even_rows, odd_rows}
use Rattle.sc_field.proofs.DotLaws.{products-none, products-more, products-all}
use Rattle.sc_field.proofs.algebra.Algebra.dot_base_pairs.Goals as goal

pub loop-b-init : goal.loop-b-init
loop-b-init g c = record {
  even = products-none _ _ _ _ (ap g.Self.Field.number c.ZERO-even.ensures ∙ g.met.Self.Field.zero_is);
  difference = products-none _ _ _ _ (ap g.Self.Field.number c.ZERO-difference.ensures ∙ g.met.Self.Field.zero_is);
}

pub loop-b-preserved : goal.loop-b-preserved
unfolding differences even_rows odd_rows
loop-b-preserved g c =
    let f = g.Self.Field in
    let number = λ (x : g.row.B.Denot). g.Self.Algebra.embedding (g.B.Field.number x) in
    let b = c.loop-b.b in
    let xs = c.args.xs.now in
    let ys = c.args.ys.now in
    let x0 = entry-read number xs (2 * b) c.index-xs-b.result (omega arith) c.index-xs-b.is in
    let x1 = entry-read number xs (2 * b + 1) c.index-xs-b-in-loop-b.result (omega arith) c.index-xs-b-in-loop-b.is in
    let y0 = entry-read f.number ys (2 * b) c.index-ys-b.result (omega arith) c.index-ys-b.is in
    let y1 = entry-read f.number ys (2 * b + 1) c.index-ys-b-in-loop-b.result (omega arith) c.index-ys-b-in-loop-b.is in
    let below = g.met.B.Field.number_below in
    let ring = g.met.Self.Field.is_field.ring in
    let h : ℕ → ℕ = g.Self.Algebra.embedding in
    let less : h (g.B.Field.number c.sub-in-loop-b.result) ≡ minus f.ops (number c.index-xs-b-in-loop-b.result) (number c.index-xs-b.result) =
    ap h c.sub-in-loop-b.ensures
    ∙ map-minus g.B.Field.ops f.ops g.met.B.Field.is_field.ring ring h g.met.Self.Algebra.embeds _ _ (below c.index-xs-b-in-loop-b.result) (below c.index-xs-b.result) in
    let first : f.number c.mul_base.result ≡ times f.ops (entries number xs (2 * b)) (entries f.number ys (2 * b)) =
    c.mul_base.ensures ∙ times_comm f.ops ring _ _ ∙ cc (x0, y0) in
    let second : f.number c.mul_base-in-loop-b.result
    ≡ times f.ops (minus f.ops (entries number xs (2 * b + 1)) (entries number xs (2 * b))) (minus f.ops (entries f.number ys (2 * b + 1)) (entries f.number ys (2 * b))) =
    c.mul_base-in-loop-b.ensures ∙ times_comm f.ops ring _ _ ∙ cc (less, c.sub.ensures, x0, x1, y0, y1) in
    record {
      even = products-more f.ops _ _ b _ _ c.loop-b.invariant.even (c.add-even.ensures ∙ ap (plus f.ops (f.number c.loop-b.even)) first);
      difference = products-more f.ops _ _ b _ _ c.loop-b.invariant.difference (c.add-difference.ensures ∙ ap (plus f.ops (f.number c.loop-b.difference)) second);
    }

pub returns : goal.returns
returns g c =
    let done : c.loop-b.b ≡ c.args.pairs = omega (arith, c.loop-b.auto, c.loop-b-test) in
    record {
      even = products-all _ _ _ done c.loop-b.invariant.even;
      difference = products-all _ _ _ done c.loop-b.invariant.difference;
    }
