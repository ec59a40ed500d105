use Rattle.std.proofs.Common.{◌≡◌, ℕ, ◌<◌, length, take, sym, ◌∙◌, ap, arith}
use Rattle.sc_definitions.specs.Ring.{plus}
use Rattle.sc_definitions.specs.Tables.{inner_product}
use Rattle.sc_definitions.proofs.Lists.{read_has}
use Rattle.sc_soundness.specs.Merged.{WeightedTable}
use Rattle.sc_merged.specs.WeightedPolys.{arity_in, table_in, weights_in, weighted_in}
use Rattle.sc_merged.specs.MergedViews.{pairs_in}
use Rattle.sc_merged.proofs.TotalLaws.{total, total-none, total-next, total-all, inner_product-total}
use Rattle.sc_merged.proofs.tables.MergedTables.sum.Goals as goal

pub loop-i-init : goal.loop-i-init
loop-i-init g c = let e = g.EF.Field in ap e.number c.ZERO-sum.ensures ∙ g.met.EF.Field.zero_is ∙ sym (total-none e.ops _ (pairs_in e.number c.args.self.now))

-- one table more
pub loop-i-preserved : goal.loop-i-preserved
loop-i-preserved g c =
    let e = g.EF.Field in
    let o = e.ops in
    let N = e.number in
    let self = c.args.self.now in
    let n = self.variables in
    let i = c.loop-i.i in
    let pair = c.index.result.now in
    let low : i < length self.pairs.items = omega (arith, c.loop-i-test.true, c.len-i-end.ensures, self.pairs.ok.0) in
    let arity : arity_in pair ≡ n = read_has (λ p. arity_in p ≡ n) self.pairs.items i pair self.same low c.index.ensures in
    let f : WeightedTable → ℕ = λ p. inner_product o n p.table p.weights in
    c.add-sum.ensures ∙ ap (λ t. plus o t (N c.sum.result)) c.loop-i.invariant
    ∙ ap (plus o (total o f (take i (pairs_in N self)))) (c.sum.ensures ∙ ap (λ k. inner_product o k (table_in N pair) (weights_in N pair)) arity)
    ∙ sym (total-next o g.met.EF.Field.is_field.ring f (weighted_in N) self.pairs.items i pair low c.index.ensures)

pub returns : goal.returns
returns g c =
    let e = g.EF.Field in
    let self = c.args.self.now in
    let n = self.variables in
    c.loop-i.invariant
    ∙ total-all e.ops (λ p. inner_product e.ops n p.table p.weights) (weighted_in e.number) self.pairs.items c.loop-i.i (omega (arith, c.loop-i-test.false, c.len-i-end.ensures, self.pairs.ok.0))
    ∙ inner_product-total e.ops n (pairs_in e.number self)
