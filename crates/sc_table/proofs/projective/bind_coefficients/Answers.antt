use Rattle.std.proofs.Common.{◌≡◌, ◌+◌, ◌<◌, length, set, sym, ◌∙◌, ap, subst, arith}
use Rattle.sc_definitions.specs.Tables.{entries, bound_coefficients}
use Rattle.sc_definitions.proofs.LoopLaws.{entry-read}
use Rattle.sc_table.specs.Blocks.{HasWritten}
use Rattle.sc_table.proofs.FoldLaws.{written-none, written-more}
use Rattle.sc_table.proofs.projective.bind_coefficients.Goals as goal

pub loop-b-init : goal.loop-b-init
loop-b-init g c = written-none g.A.Field.number _ 0 c.args.coefficients.now

pub loop-b-preserved : goal.loop-b-preserved
unfolding bound_coefficients
loop-b-preserved g c =
    let a = g.A.Field in
    let b = c.loop-b.b in
    let half = c.args.half in
    let old = c.args.coefficients.now in
    let new = c.loop-b.coefficients in
    let so_far = c.loop-b.invariant in
    let low : b < length new = omega arith in
    let high : half + b < length new = omega arith in
    let lo = entry-read a.number new b c.index-coefficients-b.result low c.index-coefficients-b.is in
    let hi = entry-read a.number new (half + b) c.index-coefficients-half.result high c.index-coefficients-half.is in
    let lo_old = so_far.behind b (omega arith) in
    let hi_old = so_far.behind (half + b) (omega arith) in
    let bound = bound_coefficients a.ops half (g.A.Algebra.embedding (g.Ch.Field.number c.args.r)) (entries a.number old) in
    let is : a.number c.add.result ≡ bound b = cc (c.add.ensures, c.mul_base-high.ensures, lo, hi, lo_old, hi_old) in
    let here : 0 + b ≡ b = omega arith in
    subst (λ k. HasWritten a.number bound 0 (b + 1) old (set new k c.add.result)) here
    (written-more a.number bound 0 b old new c.add.result (omega (arith, low)) so_far (is ∙ ap bound (sym here)))
