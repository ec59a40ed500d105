use Rattle.std.proofs.Common.{◌≡◌, ℕ, ◌+◌, ◌<◌, length, set, subst, arith}
use Rattle.sc_definitions.specs.Ring.{plus, times}
use Rattle.sc_definitions.specs.Tables.{entries}
use Rattle.sc_field.specs.Written.{HasWritten}
use Rattle.sc_field.proofs.EntryLaws.{entry-read}
use Rattle.sc_field.proofs.WrittenLaws.{written-none, written-more}
use Rattle.sc_field.proofs.field.Field.add_row.Goals as goal

pub loop-c-init : goal.loop-c-init
loop-c-init g c = written-none g.Self.Field.number _ 0 c.args.sums.now

pub loop-c-preserved : goal.loop-c-preserved
loop-c-preserved g c =
    let f = g.Self.Field in
    let k = c.loop-c.c in
    let old = c.args.sums.now in
    let new = c.loop-c.sums in
    let row = c.args.row.now in
    let table : ℕ → ℕ = λ b. plus f.ops (entries f.number old b) (times f.ops (entries f.number row b) (f.number c.args.factor)) in
    let so_far = c.loop-c.invariant in
    let low : k < length new = omega (arith, c.loop-c-test.true, c.loop-c.auto.sums) in
    let at : 0 + k ≡ k = omega arith in
    let back : k ≡ 0 + k = omega arith in
    let sum = entry-read f.number new k c.index-sums-c.result low c.index-sums-c.is in
    let value = entry-read f.number row k c.index-row-c.result (omega (arith, c.loop-c-test.true, c.requires)) c.index-row-c.is in
    let same = so_far.behind k (omega arith) in
    subst (λ j. HasWritten f.number table 0 (k + 1) old (set new j c.add.result)) at
    (written-more f.number table 0 k old new c.add.result (omega (arith, low)) so_far
    (subst (λ j. f.number c.add.result ≡ table j) back (cc (c.add.ensures, c.mul.ensures, sum, value, same))))

pub returns : goal.returns
returns g c = λ b low. c.loop-c.invariant.written b (omega arith) (omega (arith, low, c.loop-c-test.false))
