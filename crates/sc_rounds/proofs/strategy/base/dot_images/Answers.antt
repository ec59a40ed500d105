use Rattle.std.proofs.Common.{◌≡◌, ℕ, ◌∙◌, ap, sym, arith}
use Rattle.sc_definitions.specs.Ring.{plus, times}
use Rattle.sc_definitions.specs.Tables.{entries, sum_below}
use Rattle.sc_definitions.proofs.RingLaws.{times_comm}
use Rattle.sc_definitions.proofs.Sums.{sum-next}
use Rattle.sc_definitions.proofs.LoopLaws.{entry-read}
use Rattle.sc_rounds.proofs.strategy.base.dot_images.Goals as goal

pub loop-i-init : goal.loop-i-init
unfolding sum_below
loop-i-init g c = ap g.EF.Field.number c.ZERO-sum.ensures ∙ g.met.EF.Field.zero_is

pub loop-i-preserved : goal.loop-i-preserved
loop-i-preserved g c =
    let o = g.EF.Field.ops in
    let N = g.EF.Field.number in
    let T : g.row.F.Denot → ℕ = λ x. g.EF.Algebra.embedding (g.F.Field.number x) in
    let i = c.loop-i.i in
    let left : entries T c.args.evals.now i ≡ T c.index-evals-i.result = entry-read T c.args.evals.now i c.index-evals-i.result (omega arith) c.index-evals-i.is in
    let right : entries N c.args.values.now i ≡ N c.index-values-i.result = entry-read N c.args.values.now i c.index-values-i.result (omega arith) c.index-values-i.is in
    let f : ℕ → ℕ = λ b. times o (entries T c.args.evals.now b) (entries N c.args.values.now b) in
    c.add-sum.ensures ∙ ap (λ x. plus o x (N c.mul_base.result)) c.loop-i.invariant
    ∙ ap (λ x. plus o (sum_below o i f) x)
    (c.mul_base.ensures ∙ times_comm o g.met.EF.Field.is_field.ring (N c.index-values-i.result) (T c.index-evals-i.result)
    ∙ ap (λ x. times o x (N c.index-values-i.result)) (sym left) ∙ ap (times o (entries T c.args.evals.now i)) (sym right))
    ∙ sym (sum-next o i f)
