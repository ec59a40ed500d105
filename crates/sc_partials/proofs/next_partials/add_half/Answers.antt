use Rattle.std.proofs.Common.{◌≡◌, ℕ, ◌+◌, ◌<◌, true, length, set, ap, subst, arith}
use Rattle.sc_definitions.specs.Ring.{plus, times}
use Rattle.sc_definitions.specs.Tables.{entries}
use Rattle.sc_definitions.proofs.LoopLaws.{entry-read}
use Rattle.sc_table.specs.Strategy.{order_of}
use Rattle.sc_table.specs.Blocks.{HasWritten}
use Rattle.sc_table.proofs.FoldLaws.{written-none, written-more}
use Rattle.sc_partials.specs.NextPartials.{half_row}
use Rattle.sc_partials.proofs.next_partials.add_half.Goals as goal

pub loop-a-init : goal.loop-a-init
loop-a-init g c = λ m size. written-none g.EF.Field.number _ 0 c.args.rows.now

pub half_row-high-requires-clause-few : goal.half_row-high-requires-clause-few
half_row-high-requires-clause-few g c = omega (arith, c.requires.half, c.requires.few)

pub loop-a-preserved : goal.loop-a-preserved
loop-a-preserved g c = λ m size.
    let e = g.EF.Field in
    let b = c.loop-a.a in
    let old = c.args.rows.now in
    let new = c.loop-a.rows in
    let t = c.args.table.now in
    let order = order_of c.args.order in
    let high = c.half_row-high.result in
    let table : ℕ → ℕ = λ k. plus e.ops (entries e.number old k) (times e.ops (e.number c.args.factor) (entries e.number t (half_row order true m k))) in
    let so_far = c.loop-a.invariant m size in
    let low : b < length new = omega (arith, c.loop-a-test.true, c.loop-a.auto.rows) in
    let at : 0 + b ≡ b = omega arith in
    let back : b ≡ 0 + b = omega arith in
    let row = entry-read e.number new b c.index-rows-a.result low c.index-rows-a.is in
    let x = entry-read e.number t high c.index-table-high.result
    (omega (arith, c.half_row-high.ensures.below, c.requires.half)) c.index-table-high.is in
    let there : high ≡ half_row order true m b = c.half_row-high.ensures.row m size in
    let same = so_far.behind b (omega arith) in
    subst (λ k. HasWritten e.number table 0 (b + 1) old (set new k c.add.result)) at
    (written-more e.number table 0 b old new c.add.result (omega (arith, low)) so_far
    (subst (λ k. e.number c.add.result ≡ table k) back (cc (c.add.ensures, c.mul.ensures, row, x, same, ap (entries e.number t) there))))

pub returns : goal.returns
returns g c = λ m size a low. (c.loop-a.invariant m size).written a (omega arith) (omega (arith, low, size, c.loop-a-test.false))
