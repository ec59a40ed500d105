use Rattle.std.proofs.Common.{◌≡◌, ℕ, ◌+◌, ◌<◌, length, set, subst, arith}
use Rattle.sc_definitions.specs.Ring.{times}
use Rattle.sc_definitions.specs.Tables.{entries}
use Rattle.sc_definitions.proofs.LoopLaws.{entry-read}
use Rattle.sc_table.specs.Blocks.{HasWritten}
use Rattle.sc_table.proofs.FoldLaws.{written-none, written-more}
use Rattle.sc_degree.proofs.table_product.multiply.Goals as goal

pub loop-b-init : goal.loop-b-init
loop-b-init g c = written-none g.EF.Field.number _ 0 c.args.products.now

pub loop-b-preserved : goal.loop-b-preserved
loop-b-preserved g c =
    let e = g.EF.Field in
    let b = c.loop-b.b in
    let old = c.args.products.now in
    let new = c.loop-b.products in
    let table : ℕ → ℕ = λ k. times e.ops (entries e.number old k) (entries e.number c.args.factors.now k) in
    let so_far = c.loop-b.invariant in
    let low : b < length new = omega (arith, c.loop-b-test.true, c.loop-b.auto.products) in
    let at : 0 + b ≡ b = omega arith in
    let back : b ≡ 0 + b = omega arith in
    let row = entry-read e.number new b c.index-products-b.result low c.index-products-b.is in
    let value = entry-read e.number c.args.factors.now b c.index-factors-b.result (omega (arith, c.loop-b-test.true, c.requires)) c.index-factors-b.is in
    let same = so_far.behind b (omega arith) in
    subst (λ k. HasWritten e.number table 0 (b + 1) old (set new k c.mul.result)) at
    (written-more e.number table 0 b old new c.mul.result (omega (arith, low)) so_far
    (subst (λ k. e.number c.mul.result ≡ table k) back (cc (c.mul.ensures, row, value, same))))

pub returns : goal.returns
returns g c = λ b low. c.loop-b.invariant.written b (omega arith) (omega (arith, low, c.loop-b-test.false))
