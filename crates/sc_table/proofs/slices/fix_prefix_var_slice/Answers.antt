use Rattle.std.proofs.Common.{ℕ, ◌+◌, ◌/◌, ◌<◌, length, ◌∙◌, arith}
use Rattle.sc_definitions.specs.Tables.{entries, bound}
use Rattle.sc_definitions.proofs.LoopLaws.{entry-read}
use Rattle.sc_table.proofs.SliceLaws.{pushed-more}
use Rattle.sc_table.proofs.slices.fix_prefix_var_slice.Goals as goal

pub loop-b-preserved : goal.loop-b-preserved
unfolding bound
loop-b-preserved g c =
    let a = g.A.Field in
    let embed : ℕ → ℕ = g.A.Algebra.embedding in
    let read = g.B.Field.number in
    let xs = c.args.evals.now in
    let half = length xs / 2 in
    let b = c.loop-b.b in
    let f : ℕ → ℕ = λ i. embed (entries read xs i) in
    let low : b < length xs = omega (arith, c.loop-b-test.true) in
    let high : half + b < length xs = omega (arith, c.loop-b-test.true) in
    let lo = entry-read read xs (b) c.index-evals-b.result low c.index-evals-b.is in
    let hi = entry-read read xs (half + b) c.index-evals-half.result high c.index-evals-half.is in (
      pushed-more a.number (bound a.ops half (a.number c.args.r) f) b c.loop-b.values.items _ c.value_between.result c.push_reserved.ensures.items c.loop-b.invariant.0
          (cc (c.value_between.ensures, lo, hi)),
      c.push_reserved.ensures.capacity ∙ c.loop-b.invariant.1,
    )
