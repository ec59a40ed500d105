use Rattle.std.proofs.Common.{refl, sym, subst, ◌∙◌}
use Rattle.std.proofs.lemmas.List.{take_all}
use Rattle.sc_constraints.specs.Groups.{group_arity, group_statements, all_statements}
use Rattle.sc_statements.specs.Batches.{gathered, AddsBatch}
use Rattle.sc_table.specs.Polys.{table_of}
use Rattle.sc_table.proofs.EntryLaws.{entry-below}
use Rattle.sc_constraints.proofs.GroupSteps.{arity-of, IsCombined-none, IsCombined-more}
use Rattle.sc_constraints.proofs.constraint.Constraint.combine.Goals as goal

pub loop-group-init : goal.loop-group-init
loop-group-init g c =
    let f = g.EF.Field in
    let met = g.met.EF.Field in
    record {
      variables = refl;
      combined = IsCombined-none (group_statements (λ x. g.EF.Algebra.embedding (g.F.Field.number x)) f.number) f.ops met.is_field.ring _ _ _ _
          (entry-below f.ops f.number met.is_field.ring met.number_below c.args.combined.now.evals.items) (met.number_below c.args.eval.now) c.first_coefficient-coefficient.ensures;
    }

pub loop-group-preserved : goal.loop-group-preserved
loop-group-preserved g c =
    let f = g.EF.Field in
    record {
      variables = c.add_batch.ensures.variables ∙ c.loop-group.invariant.variables;
      combined = IsCombined-more (group_statements (λ x. g.EF.Algebra.embedding (g.F.Field.number x)) f.number) f.ops g.met.EF.Field.is_field.ring _ _ _ c.deref-group-items.result.now group_arity c.loop-group.group-index c.group-item.result c.loop-group.invariant.combined c.args.self.now.fits c.deref-group-items.ensures.value c.loop-group-test.true c.group-item.is
          c.in_ok-coefficient.ensures.added c.in_ok-coefficient.ensures.next;
    }

-- the table keeps its number of variables, which all groups have
pub add_batch-requires : goal.add_batch-requires
add_batch-requires g c =
    c.loop-group.invariant.variables ∙ c.requires
    ∙ sym (arity-of group_arity c.args.self.now.num_variables c.deref-group-items.result.now c.args.self.now.statements.items c.loop-group.group-index c.group-item.result
    c.args.self.now.fits c.deref-group-items.ensures.value c.loop-group-test.true c.group-item.is)

-- at the end the groups taken are all of them
pub returns-clause-ok : goal.returns-clause-ok
returns-clause-ok g c =
    let f = g.EF.Field in
    let self = c.args.self.now in
    subst (λ l. AddsBatch f.ops self.num_variables (f.number self.challenge) self.initial_power (all_statements (λ x. g.EF.Algebra.embedding (g.F.Field.number x)) f.number l)
    (gathered (table_of f.number c.args.combined.now) (f.number c.args.eval.now)) (gathered (table_of f.number c.loop-group.combined) (f.number c.loop-group.eval)))
    (take_all c.loop-group.group-index c.deref-group-items.result.now c.loop-group-test.false ∙ c.deref-group-items.ensures.value) c.loop-group.invariant.combined.added

-- each step keeps the number of variables
pub returns-clause-variables : goal.returns-clause-variables
returns-clause-variables g c = c.loop-group.invariant.variables

-- the step before the refusal kept it too
pub returns-in_err-coefficient-clause-variables : goal.returns-in_err-coefficient-clause-variables
returns-in_err-coefficient-clause-variables g c = c.in_err-coefficient.ensures.variables ∙ c.loop-group.invariant.variables
