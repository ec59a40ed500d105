use Rattle.std.proofs.Common.{ℕ, ◌+◌, ◌*◌, ◌/◌, ◌<◌, length, ◌∙◌, arith}
use Rattle.sc_definitions.specs.Tables.{entries, bound_low}
use Rattle.sc_definitions.proofs.LoopLaws.{entry-read}
use Rattle.sc_table.proofs.SliceLaws.{pushed-more}
use Rattle.sc_table.proofs.slices.fix_suffix_var_slice.Goals as goal

pub loop-b-preserved : goal.loop-b-preserved
unfolding bound_low
loop-b-preserved g c =
    let a = g.A.Field in
    let embed : ℕ → ℕ = g.A.Algebra.embedding in
    let read = g.B.Field.number in
    let xs = c.args.evals.now in
    let half = length xs / 2 in
    let b = c.loop-b.b in
    let f : ℕ → ℕ = λ i. embed (entries read xs i) in
    let low : 2 * b < length xs = omega (arith, c.loop-b-test.true) in
    let high : 2 * b + 1 < length xs = omega (arith, c.loop-b-test.true) in
    let lo = entry-read read xs (2 * b) c.index-evals-b.result low c.index-evals-b.is in
    let hi = entry-read read xs (2 * b + 1) c.index-evals-b-in-loop-b.result high c.index-evals-b-in-loop-b.is in (
      pushed-more a.number (bound_low a.ops (a.number c.args.r) f) b c.loop-b.values.items _ c.value_between.result c.push_reserved.ensures.items c.loop-b.invariant.0
          (cc (c.value_between.ensures, lo, hi)),
      c.push_reserved.ensures.capacity ∙ c.loop-b.invariant.1,
    )
