use Rattle.std.proofs.Common.{◌≡◌, ◌<◌, ◌^◌, ap, sym, ◌∙◌, subst, arith}
use Rattle.sc_definitions.specs.Tables.{bound}
use Rattle.sc_table.specs.Polys.{table_of}
use Rattle.sc_merged.proofs.SameRowsLaws.{bound-one}
use Rattle.sc_merged.proofs.weighted.WeightedPoly.bind.Goals as goal

pub returns-clause-bound : goal.returns-clause-bound
returns-clause-bound g c =
    let o = g.EF.Field.ops in
    let N = g.EF.Field.number in
    let old = c.args.self.now in
    let r = N c.args.r in
    let first = c.fix_prefix_var_mut.ensures in
    let second = c.fix_prefix_var_mut-2.ensures in
    let m = c.fix_prefix_var_mut.new.self.variables in
    let same : c.fix_prefix_var_mut-2.new.self.variables ≡ m = omega (arith, first.fewer, second.fewer, old.same) in
    record {
      table = λ b low. first.bound b low ∙ ap (λ f. f b) (sym (bound-one o r m (table_of N old.table)));
      weights = λ b low. second.bound b (subst (λ k. b < 2 ^ k) (sym same) low) ∙ ap (λ k. bound o (2 ^ k) r (table_of N old.weights) b) same
          ∙ ap (λ f. f b) (sym (bound-one o r m (table_of N old.weights)));
    }
