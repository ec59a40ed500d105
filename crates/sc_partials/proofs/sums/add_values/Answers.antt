use Rattle.std.proofs.Common.{◌≡◌, ℕ, ◌+◌, ◌<◌, length, set, subst, arith}
use Rattle.sc_definitions.specs.Ring.{plus, times}
use Rattle.sc_definitions.specs.Tables.{entries}
use Rattle.sc_definitions.proofs.LoopLaws.{entry-read}
use Rattle.sc_table.specs.Blocks.{HasWritten}
use Rattle.sc_table.proofs.FoldLaws.{written-none, written-more}
use Rattle.sc_partials.proofs.sums.add_values.Goals as goal

pub loop-k-init : goal.loop-k-init
loop-k-init g c = written-none g.EF.Field.number _ 0 c.args.sums.now

pub loop-k-preserved : goal.loop-k-preserved
loop-k-preserved g c =
    let e = g.EF.Field in
    let b = c.loop-k.k in
    let old = c.args.sums.now in
    let new = c.loop-k.sums in
    let xs = c.args.xs.now in
    let ys = c.args.ys.now in
    let table : ℕ → ℕ = λ k. plus e.ops (entries e.number old k) (times e.ops (entries e.number xs k) (entries e.number ys k)) in
    let so_far = c.loop-k.invariant in
    let low : b < length new = omega (arith, c.loop-k-test.true, c.loop-k.auto.sums) in
    let at : 0 + b ≡ b = omega arith in
    let back : b ≡ 0 + b = omega arith in
    let row = entry-read e.number new b c.index-sums-k.result low c.index-sums-k.is in
    let x = entry-read e.number xs b c.index-xs-k.result (omega (arith, c.loop-k-test.true, c.requires.first)) c.index-xs-k.is in
    let y = entry-read e.number ys b c.index-ys-k.result (omega (arith, c.loop-k-test.true, c.requires.second)) c.index-ys-k.is in
    let same = so_far.behind b (omega arith) in
    subst (λ k. HasWritten e.number table 0 (b + 1) old (set new k c.add.result)) at
    (written-more e.number table 0 b old new c.add.result (omega (arith, low)) so_far
    (subst (λ k. e.number c.add.result ≡ table k) back (cc (c.add.ensures, c.mul.ensures, row, x, y, same))))

pub returns : goal.returns
returns g c = λ b low. c.loop-k.invariant.written b (omega arith) (omega (arith, low, c.loop-k-test.false))
