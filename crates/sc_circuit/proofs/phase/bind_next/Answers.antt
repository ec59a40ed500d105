use Rattle.std.proofs.Common.{◌+◌, ◌<◌, length, arith}
use Rattle.sc_definitions.specs.Tables.{entries, bound}
use Rattle.sc_definitions.proofs.LoopLaws.{entry-read}
use Rattle.sc_field.proofs.WrittenLaws.{written-none}
use Rattle.sc_circuit.proofs.RowLaws.{written-next}
use Rattle.sc_circuit.proofs.phase.bind_next.Goals as goal

pub loop-b-init : goal.loop-b-init
loop-b-init g c = written-none g.EF.Field.number _ 0 c.args.rows.now

pub loop-b-preserved : goal.loop-b-preserved
unfolding bound
loop-b-preserved g c =
    let e = g.EF.Field in
    let b = c.loop-b.b in
    let half = c.args.half in
    let old = c.args.rows.now in
    let new = c.loop-b.rows in
    let so_far = c.loop-b.invariant in
    let low : b < length new = omega arith in
    let high : half + b < length new = omega arith in
    let lo = entry-read e.number new b c.index-rows-b.result low c.index-rows-b.is in
    let hi = entry-read e.number new (half + b) c.index-rows-half.result high c.index-rows-half.is in
    let lo_old = so_far.behind b (omega arith) in
    let hi_old = so_far.behind (half + b) (omega arith) in
    written-next e.number (bound e.ops half (e.number c.args.r) (entries e.number old)) b old new c.line_at.result low so_far
    (cc (c.line_at.ensures, lo, hi, lo_old, hi_old))

pub returns : goal.returns
returns g c = λ b low. c.loop-b.invariant.written b (omega arith) (omega (arith, low, c.loop-b-test.false))
