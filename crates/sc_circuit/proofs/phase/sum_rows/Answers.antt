use Rattle.std.proofs.Common.{◌≡◌, ℕ, ◌+◌, sym, ◌∙◌, ap, arith}
use Rattle.sc_definitions.specs.Ring.{plus}
use Rattle.sc_definitions.specs.Tables.{sum_below, entries, bound}
use Rattle.sc_definitions.proofs.LoopLaws.{entry-read}
use Rattle.sc_definitions.proofs.Sums.{sum-zero, sum-next}
use Rattle.sc_circuit_definitions.specs.LayerPhases.{row_sum}
use Rattle.sc_circuit.specs.Rows.{phase_of, phase_bound}
use Rattle.sc_circuit.proofs.phase.sum_rows.Goals as goal

pub loop-b-init : goal.loop-b-init
loop-b-init g c = ap g.EF.Field.number c.ZERO-sum.ensures ∙ g.met.EF.Field.zero_is ∙ sym (sum-zero g.EF.Field.ops _)

pub loop-b-preserved : goal.loop-b-preserved
unfolding row_sum bound
loop-b-preserved g c =
    let e = g.EF.Field in
    let N = e.number in
    let b = c.loop-b.b in
    let half = c.args.half in
    let term : ℕ → ℕ = row_sum e.ops (phase_bound e.ops half (N c.args.x) (phase_of N c.args.values.now c.args.factors.now c.args.rests.now)) in
    let v0 = entry-read N c.args.values.now b c.index-values-b.result (omega (arith, c.loop-b-test.true, c.requires.values)) c.index-values-b.is in
    let v1 = entry-read N c.args.values.now (half + b) c.index-values-half.result (omega (arith, c.loop-b-test.true, c.requires.values)) c.index-values-half.is in
    let f0 = entry-read N c.args.factors.now b c.index-factors-b.result (omega (arith, c.loop-b-test.true, c.requires.factors)) c.index-factors-b.is in
    let f1 = entry-read N c.args.factors.now (half + b) c.index-factors-half.result (omega (arith, c.loop-b-test.true, c.requires.factors)) c.index-factors-half.is in
    let r0 = entry-read N c.args.rests.now b c.index-rests-b.result (omega (arith, c.loop-b-test.true, c.requires.rests)) c.index-rests-b.is in
    let r1 = entry-read N c.args.rests.now (half + b) c.index-rests-half.result (omega (arith, c.loop-b-test.true, c.requires.rests)) c.index-rests-half.is in
    let value : N c.line_at-value.result ≡ bound e.ops half (N c.args.x) (entries N c.args.values.now) b = cc (c.line_at-value.ensures, v0, v1) in
    let factor : N c.line_at-factor.result ≡ bound e.ops half (N c.args.x) (entries N c.args.factors.now) b = cc (c.line_at-factor.ensures, f0, f1) in
    let rest : N c.line_at-rest.result ≡ bound e.ops half (N c.args.x) (entries N c.args.rests.now) b = cc (c.line_at-rest.ensures, r0, r1) in
    let adds : N c.add.result ≡ term b = cc (c.add.ensures, c.mul.ensures, value, factor, rest) in
    c.add-sum.ensures ∙ ap (λ s. plus e.ops s (N c.add.result)) c.loop-b.invariant
    ∙ ap (plus e.ops (sum_below e.ops b term)) adds ∙ sym (sum-next e.ops b term)
