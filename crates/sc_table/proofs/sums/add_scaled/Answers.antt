use Rattle.std.proofs.Common.{◌≡◌, ℕ, ◌+◌, ◌<◌, length, set, subst, arith}
use Rattle.sc_definitions.specs.Ring.{plus, times}
use Rattle.sc_definitions.specs.Tables.{entries}
use Rattle.sc_definitions.proofs.LoopLaws.{entry-read}
use Rattle.sc_table.specs.Blocks.{HasWritten}
use Rattle.sc_table.proofs.FoldLaws.{written-none, written-more}
use Rattle.sc_table.proofs.sums.add_scaled.Goals as goal

pub loop-b-init : goal.loop-b-init
loop-b-init g c = written-none g.E.Field.number _ 0 c.args.rows.now

pub loop-b-preserved : goal.loop-b-preserved
loop-b-preserved g c =
    let e = g.E.Field in
    let of = λ (x : g.row.A.Denot). g.E.Algebra.embedding (g.A.Field.number x) in
    let b = c.loop-b.b in
    let old = c.args.rows.now in
    let new = c.loop-b.rows in
    let values = c.args.values.now in
    let table : ℕ → ℕ = λ k. plus e.ops (entries e.number old k) (times e.ops (e.number c.args.scale) (entries of values k)) in
    let so_far = c.loop-b.invariant in
    let low : b < length new = omega (arith, c.loop-b-test.true, c.loop-b.auto.rows) in
    let at : 0 + b ≡ b = omega arith in
    let back : b ≡ 0 + b = omega arith in
    let row = entry-read e.number new b c.index-rows-b.result low c.index-rows-b.is in
    let value = entry-read of values b c.index-values-b.result (omega (arith, c.loop-b-test.true, c.requires)) c.index-values-b.is in
    let same = so_far.behind b (omega arith) in
    subst (λ k. HasWritten e.number table 0 (b + 1) old (set new k c.add.result)) at
    (written-more e.number table 0 b old new c.add.result (omega (arith, low)) so_far
    (subst (λ k. e.number c.add.result ≡ table k) back (cc (c.add.ensures, c.mul_base.ensures, row, value, same))))

pub returns : goal.returns
returns g c = λ b low. c.loop-b.invariant.written b (omega arith) (omega (arith, low, c.loop-b-test.false))
