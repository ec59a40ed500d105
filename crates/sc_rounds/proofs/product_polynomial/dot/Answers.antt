use Rattle.std.proofs.Common.{◌≡◌, ℕ, ◌∙◌, ap, sym, arith}
use Rattle.sc_definitions.specs.Ring.{plus, times}
use Rattle.sc_definitions.specs.Tables.{entries, sum_below}
use Rattle.sc_definitions.proofs.Sums.{sum-next}
use Rattle.sc_definitions.proofs.LoopLaws.{entry-read}
use Rattle.sc_rounds.proofs.product_polynomial.dot.Goals as goal

pub loop-i-init : goal.loop-i-init
unfolding sum_below
loop-i-init g c = ap g.EF.Field.number c.ZERO-sum.ensures ∙ g.met.EF.Field.zero_is

pub loop-i-preserved : goal.loop-i-preserved
loop-i-preserved g c =
    let o = g.EF.Field.ops in
    let N = g.EF.Field.number in
    let T : g.row.R.Denot → ℕ = λ x. g.R.FromTable.to_number (g.R.Field.number x) in
    let i = c.loop-i.i in
    let left : entries N c.args.left.now i ≡ N c.index-left-i.result = entry-read N c.args.left.now i c.index-left-i.result (omega arith) c.index-left-i.is in
    let right : entries T c.args.right.now i ≡ T c.index-right-i.result = entry-read T c.args.right.now i c.index-right-i.result (omega arith) c.index-right-i.is in
    let f : ℕ → ℕ = λ b. times o (entries N c.args.left.now b) (entries T c.args.right.now b) in
    c.add-sum.ensures ∙ ap (λ x. plus o x (N c.mul.result)) c.loop-i.invariant
    ∙ ap (λ x. plus o (sum_below o i f) x) (c.mul.ensures ∙ ap (λ x. times o x (N c.into_transcript.result)) (sym left) ∙ ap (times o (entries N c.args.left.now i)) (c.into_transcript.ensures ∙ sym right))
    ∙ sym (sum-next o i f)
