use Rattle.std.proofs.Common.{ℕ, ◌+◌, ◌/◌, ◌<◌, length, ◌∙◌, arith}
use Rattle.sc_definitions.specs.Tables.{entries, bound_coefficients}
use Rattle.sc_definitions.proofs.LoopLaws.{entry-read}
use Rattle.sc_definitions.proofs.RingLaws.{times_comm}
use Rattle.sc_table.proofs.SliceLaws.{pushed-more}
use Rattle.sc_table.proofs.projective.fix_prefix_var_slice_projective.Goals as goal

pub loop-b-preserved : goal.loop-b-preserved
unfolding bound_coefficients
loop-b-preserved g c =
    let a = g.A.Field in
    let embed : ℕ → ℕ = g.A.Algebra.embedding in
    let read = g.B.Field.number in
    let xs = c.args.coefficients.now in
    let half = length xs / 2 in
    let b = c.loop-b.b in
    let f : ℕ → ℕ = λ i. embed (entries read xs i) in
    let low : b < length xs = omega (arith, c.loop-b-test.true) in
    let high : half + b < length xs = omega (arith, c.loop-b-test.true) in
    let lo = entry-read read xs b c.index-coefficients-b.result low c.index-coefficients-b.is in
    let hi = entry-read read xs (half + b) c.index-coefficients-half.result high c.index-coefficients-half.is in (
      pushed-more a.number (bound_coefficients a.ops half (a.number c.args.r) f) b c.loop-b.bound.items _ c.add.result c.push_reserved.ensures.items c.loop-b.invariant.0
          (cc (c.add.ensures, c.embed.ensures, c.mul_base.ensures, lo, hi, times_comm a.ops g.met.A.Field.is_field.ring (a.number c.args.r) (f (half + b)))),
      c.push_reserved.ensures.capacity ∙ c.loop-b.invariant.1,
    )
