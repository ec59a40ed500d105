use Rattle.std.proofs.Common.{◌≡◌, ℕ, ◌+◌, ◌<◌, length, set, subst, arith}
use Rattle.sc_definitions.specs.Ring.{plus, times, minus}
use Rattle.sc_definitions.specs.Tables.{entries}
use Rattle.sc_definitions.proofs.LoopLaws.{entry-read}
use Rattle.sc_table.specs.Blocks.{HasWritten}
use Rattle.sc_table.proofs.FoldLaws.{written-none, written-more}
use Rattle.sc_partials.proofs.sums.add_differences.Goals as goal

pub loop-k-init : goal.loop-k-init
loop-k-init g c = written-none g.EF.Field.number _ 0 c.args.sums.now

pub loop-k-preserved : goal.loop-k-preserved
loop-k-preserved g c =
    let e = g.EF.Field in
    let b = c.loop-k.k in
    let old = c.args.sums.now in
    let new = c.loop-k.sums in
    let x0 = c.args.x0.now in
    let x1 = c.args.x1.now in
    let y0 = c.args.y0.now in
    let y1 = c.args.y1.now in
    let table : ℕ → ℕ = λ k. plus e.ops (entries e.number old k)
    (times e.ops (minus e.ops (entries e.number x1 k) (entries e.number x0 k)) (minus e.ops (entries e.number y1 k) (entries e.number y0 k))) in
    let so_far = c.loop-k.invariant in
    let low : b < length new = omega (arith, c.loop-k-test.true, c.loop-k.auto.sums) in
    let at : 0 + b ≡ b = omega arith in
    let back : b ≡ 0 + b = omega arith in
    let row = entry-read e.number new b c.index-sums-k.result low c.index-sums-k.is in
    let a = entry-read e.number x0 b c.index-x0-k.result (omega (arith, c.loop-k-test.true, c.requires.first)) c.index-x0-k.is in
    let b1 = entry-read e.number x1 b c.index-x1-k.result (omega (arith, c.loop-k-test.true, c.requires.second)) c.index-x1-k.is in
    let c0 = entry-read e.number y0 b c.index-y0-k.result (omega (arith, c.loop-k-test.true, c.requires.third)) c.index-y0-k.is in
    let c1 = entry-read e.number y1 b c.index-y1-k.result (omega (arith, c.loop-k-test.true, c.requires.fourth)) c.index-y1-k.is in
    let same = so_far.behind b (omega arith) in
    subst (λ k. HasWritten e.number table 0 (b + 1) old (set new k c.add.result)) at
    (written-more e.number table 0 b old new c.add.result (omega (arith, low)) so_far
    (subst (λ k. e.number c.add.result ≡ table k) back (cc (c.add.ensures, c.mul.ensures, c.sub.ensures, c.sub-in-loop-k.ensures, row, a, b1, c0, c1, same))))

pub returns : goal.returns
returns g c = λ b low. c.loop-k.invariant.written b (omega arith) (omega (arith, low, c.loop-k-test.false))
