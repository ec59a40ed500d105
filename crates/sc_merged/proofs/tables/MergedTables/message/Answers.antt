use Rattle.std.proofs.Common.{◌≡◌, ℕ, [], ◌∷◌, ◌<◌, ◌≤◌, length, take, sym, ◌∙◌, ap, arith}
use Rattle.sc_definitions.specs.Ring.{plus}
use Rattle.sc_definitions.specs.Tables.{evaluation, prefix}
use Rattle.sc_definitions.specs.Messages.{message_first, message_leading, message_of}
use Rattle.sc_definitions.specs.ProverStates.{half_rows}
use Rattle.sc_definitions.proofs.Lists.{read_has}
use Rattle.sc_soundness.specs.Merged.{WeightedTable, merged_message_first}
use Rattle.sc_merged.specs.WeightedPolys.{arity_in, table_in, weights_in, weighted_in}
use Rattle.sc_merged.specs.MergedViews.{pairs_in}
use Rattle.sc_merged.proofs.TotalLaws.{total, total-none, total-next, total-all, first-total, leading-total, both}
use Rattle.sc_merged.proofs.tables.MergedTables.message.Goals as goal

pub loop-i-init : goal.loop-i-init
loop-i-init g c =
    let e = g.EF.Field in
    let ps = pairs_in e.number c.args.self.now in
    record {
      first = ap e.number c.ZERO-c_a.ensures ∙ g.met.EF.Field.zero_is ∙ sym (total-none e.ops _ ps);
      leading = ap e.number c.ZERO-c_inf.ensures ∙ g.met.EF.Field.zero_is ∙ sym (total-none e.ops _ ps);
    }

-- one table more
pub loop-i-preserved : goal.loop-i-preserved
loop-i-preserved g c =
    let e = g.EF.Field in
    let o = e.ops in
    let ring = g.met.EF.Field.is_field.ring in
    let N = e.number in
    let self = c.args.self.now in
    let half = half_rows self.variables in
    let i = c.loop-i.i in
    let pair = c.index.result.now in
    let low : i < length self.pairs.items = omega (arith, c.loop-i-test.true, c.len-i-end.ensures, self.pairs.ok.0) in
    let arity : arity_in pair ≡ self.variables = read_has (λ p. arity_in p ≡ self.variables) self.pairs.items i pair self.same low c.index.ensures in
    let F : WeightedTable → ℕ = λ p. message_first evaluation prefix o half p.table p.weights in
    let L : WeightedTable → ℕ = λ p. message_leading evaluation prefix o half p.table p.weights in
    let sent = both _ _ _ _ (c.message-message.ensures ∙ ap (λ k. message_of evaluation prefix o (half_rows k) (table_in N pair) (weights_in N pair)) arity) in
    record {
      first = c.add-c_a.ensures ∙ ap (λ t. plus o t (N c.message-message.result.c_a)) c.loop-i.invariant.first
          ∙ ap (plus o (total o F (take i (pairs_in N self)))) sent.0 ∙ sym (total-next o ring F (weighted_in N) self.pairs.items i pair low c.index.ensures);
      leading = c.add-c_inf.ensures ∙ ap (λ t. plus o t (N c.message-message.result.c_inf)) c.loop-i.invariant.leading
          ∙ ap (plus o (total o L (take i (pairs_in N self)))) sent.1 ∙ sym (total-next o ring L (weighted_in N) self.pairs.items i pair low c.index.ensures);
    }

pub returns : goal.returns
returns g c =
    let e = g.EF.Field in
    let o = e.ops in
    let self = c.args.self.now in
    let half = half_rows self.variables in
    let ps = pairs_in e.number self in
    let all : length self.pairs.items ≤ c.loop-i.i = omega (arith, c.loop-i-test.false, c.len-i-end.ensures, self.pairs.ok.0) in
    let F : WeightedTable → ℕ = λ p. message_first evaluation prefix o half p.table p.weights in
    let L : WeightedTable → ℕ = λ p. message_leading evaluation prefix o half p.table p.weights in
    ap (λ x. x ∷ e.number c.loop-i.c_inf ∷ []) (c.loop-i.invariant.first ∙ total-all o F (weighted_in e.number) self.pairs.items c.loop-i.i all ∙ first-total o half ps)
    ∙ ap (λ x. merged_message_first o half ps ∷ x ∷ [])
    (c.loop-i.invariant.leading ∙ total-all o L (weighted_in e.number) self.pairs.items c.loop-i.i all ∙ leading-total o half ps)
