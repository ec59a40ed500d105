use Rattle.std.proofs.Common.{◌<◌, ◌≤◌, length, ◌∙◌, refl, arith}
use Rattle.sc_table.specs.Polys.{table_of}
use Rattle.sc_table.proofs.EntryLaws.{entry-below}
use Rattle.sc_statements.proofs.BatchSteps.{IsWeighted-none, weights-more, weighted-all}
use Rattle.sc_statements.proofs.list.add_batch.Goals as goal

pub loop-i-init : goal.loop-i-init
loop-i-init g c =
    let f = g.EF.Field in
    let met = g.met.EF.Field in
    record {
      variables = refl;
      weighted = λ p is. IsWeighted-none f.ops met.is_field.ring _ _ p _ _ _ (entry-below f.ops f.number met.is_field.ring met.number_below c.args.weights.now.evals.items) (λ b. refl) is;
    }

pub add_weights-requires-clause-arity : goal.add_weights-requires-clause-arity
add_weights-requires-clause-arity g c = c.loop-i.invariant.variables ∙ c.requires

pub loop-i-preserved : goal.loop-i-preserved
loop-i-preserved g c =
    let f = g.EF.Field in
    let l = c.loop-i in
    let ss = g.S.StatementList.statements c.args.statements.now in
    let low : l.i < length ss = omega (arith, c.loop-i-test.true, c.count-i-end.ensures) in
    record {
      variables = c.add_weights.ensures.variables ∙ l.invariant.variables;
      weighted = λ p is. weights-more f.ops g.met.EF.Field.is_field.ring (f.number c.args.challenge) p ss l.i low _ _ _ (table_of f.number l.weights) _ (f.number l.coefficient) _
          (l.invariant.weighted p is) refl c.add_weights.ensures.table c.mul-coefficient.ensures;
    }

pub returns-clause-added : goal.returns-clause-added
returns-clause-added g c = λ p is.
    let past : length (g.S.StatementList.statements c.args.statements.now) ≤ c.loop-i.i = omega (arith, c.loop-i-test.false, c.count-i-end.ensures) in
    record {
      weights = weighted-all g.EF.Field.ops _ p _ c.loop-i.i past _ _ _ _ (c.loop-i.invariant.weighted p is);
      sum = c.add_values.ensures.added p is;
    }
