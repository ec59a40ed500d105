use Rattle.std.proofs.Common.{◌+◌, ◌<◌, length, arith}
use Rattle.sc_definitions.specs.Tables.{entries, bound}
use Rattle.sc_definitions.proofs.LoopLaws.{entry-read}
use Rattle.sc_table.proofs.FoldLaws.{written-none, written-more}
use Rattle.sc_table.proofs.poly.bind_halves.Goals as goal

pub loop-b-init : goal.loop-b-init
loop-b-init g c = written-none g.A.Field.number _ c.args.from c.args.evals.now

pub loop-b-preserved : goal.loop-b-preserved
unfolding bound
loop-b-preserved g c =
    let a = g.A.Field in
    let from = c.args.from in
    let b = c.loop-b.b in
    let half = c.args.half in
    let old = c.args.evals.now in
    let new = c.loop-b.evals in
    let so_far = c.loop-b.invariant in
    let low : from + b < length new = omega arith in
    let high : half + (from + b) < length new = omega arith in
    let lo = entry-read a.number new (from + b) c.index-evals-from.result low c.index-evals-from.is in
    let hi = entry-read a.number new (half + (from + b)) c.index-evals-half.result high c.index-evals-half.is in
    let lo_old = so_far.behind (from + b) (omega arith) in
    let hi_old = so_far.behind (half + (from + b)) (omega arith) in
    written-more a.number (bound a.ops half (g.A.Algebra.embedding (g.Ch.Field.number c.args.r)) (entries a.number old)) from b old new c.add.result low so_far
    (cc (c.add.ensures, c.mul_base.ensures, c.sub.ensures, lo, hi, lo_old, hi_old))
