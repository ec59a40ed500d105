use Rattle.std.proofs.Common.{rules, ◌≡◌, ℕ, ◌^◌, ◌<◌, Bool, true, false, not, refl, ◌∙◌, ap, arith, eqb-true}
use Rattle.sc_table.specs.Polys.{table_of}
use Rattle.sc_table.proofs.EntryLaws.{entry-below}
use Rattle.sc_statements.proofs.BatchSteps.{AddsBatch-none, WritesBatch-cleared}
use Rattle.sc_statements.proofs.statement.eq.EqStatement.combine_hypercube.Goals as goal
use Rattle.sc_statements.proofs.statement.eq.EqStatement.combine_hypercube.Goals.{then-not-this, else-not-this}

true_from_not : (b : Bool) → not b ≡ false → b ≡ true
true_from_not true e = refl
true_from_not false e = cc

pub returns-then-is_empty-clause-added : goal.returns-then-is_empty-clause-added
returns-then-is_empty-clause-added g c = λ _.
    let f = g.EF.Field in
    let met = g.met.EF.Field in
    AddsBatch-none f.ops met.is_field.ring (c.is_empty.ensures.0 c.if-is_empty.true)
    (entry-below f.ops f.number met.is_field.ring met.number_below c.args.acc_weights.now.evals.items) (met.number_below c.args.acc_sum.now)

pub returns-clause-overwritten : goal.returns-clause-overwritten
returns-clause-overwritten g c = λ off _.
    let f = g.EF.Field in
    let cleared : (b : ℕ) → b < 2 ^ c.args.self.now.num_variables → table_of f.number c.if-not-this.acc_weights b ≡ 0 = λ b low.
    elim c.if-not-this.branch [
      | then-not-this w ↦ ap (λ t. table_of f.number t b) w.acc_weights-is ∙ w.clear.ensures.table b (omega (arith, low, ap (λ k. 2 ^ k) c.requires))
      | else-not-this w ↦ absurd (w.if-not-this.false (eqb-true _ _ (true_from_not _ off)))
    ] in
    WritesBatch-cleared f.ops g.met.EF.Field.is_field.ring _ _ _ _ (table_of f.number c.if-not-this.acc_weights) _ _ _ cleared (c.add_batch-next.ensures.added c.args.shift c.exp_u64-first.ensures)

-- some statement is no empty list
pub returns-clause-empty : goal.returns-clause-empty
returns-clause-empty g c = search rules
