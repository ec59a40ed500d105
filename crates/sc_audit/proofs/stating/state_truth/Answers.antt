use Rattle.std.proofs.Common.{map, ◌∙◌, ap, subst, refl}
use Rattle.sc_definitions.specs.Tables.{entries}
use Rattle.sc_statements.specs.Claimed.{with_values, all_stated_truly}
use Rattle.sc_statements.proofs.ClaimLaws.{with_true_values}
use Rattle.sc_jobs.specs.Cases.{problem_in}
use Rattle.sc_audit.specs.Ways.{IsBatchedFor}
use Rattle.sc_jobs.proofs.StatedLaws.{restated, problem-stated}
use Rattle.sc_audit.proofs.WayLaws.{given-batch, small-way, simple-ways}
use Rattle.sc_audit.proofs.stating.state_truth.Goals as goal

-- the values that the batch comes with are the true ones
pub returns-in-Some-clause-kept : goal.returns-in-Some-clause-kept
returns-in-Some-clause-kept g c =
    let job = c.args.job.now in
    let p = problem_in job in
    let o = g.EF.Field.ops in
    let batched = c.in-Some.batched in
    let is : IsBatchedFor job batched = subst (λ j. IsBatchedFor j batched) c.in_ok-of.ensures.same (given-batch _ _ batched c.in-Some.is c.in_ok-found.ensures) in
    restated job _ refl refl refl refl refl c.claim_values.ensures.arity c.claim_values.ensures.challenge c.claim_values.ensures.power
    (c.claim_values.ensures.statements ∙ ap (with_values p.statements) (ap (map g.EF.Field.number) c.deref.ensures.value ∙ is.actual) ∙ with_true_values o p.variables p.table p.statements)

pub returns-in-Some-clause-stated : goal.returns-in-Some-clause-stated
returns-in-Some-clause-stated g c =
    let job = c.args.job.now in
    let p = problem_in job in
    let o = g.EF.Field.ops in
    let batched = c.in-Some.batched in
    let is : IsBatchedFor job batched = subst (λ j. IsBatchedFor j batched) c.in_ok-of.ensures.same (given-batch _ _ batched c.in-Some.is c.in_ok-found.ensures) in
    problem-stated job (record job { constraint = c.claim_values.new.self }) (returns-in-Some-clause-kept g c)
    (c.claim_values.ensures.statements ∙ ap (with_values p.statements) (ap (map g.EF.Field.number) c.deref.ensures.value ∙ is.actual) ∙ with_true_values o p.variables p.table p.statements)

-- the batch is that of the job's build still
pub returns-in-Some-clause-way : goal.returns-in-Some-clause-way
returns-in-Some-clause-way g c =
    let job = c.args.job.now in
    let batched = c.in-Some.batched in
    let is : IsBatchedFor job batched = subst (λ j. IsBatchedFor j batched) c.in_ok-of.ensures.same (given-batch _ _ batched c.in-Some.is c.in_ok-found.ensures) in
    small-way job (record job { constraint = c.claim_values.new.self }) (returns-in-Some-clause-kept g c) (returns-in-Some-clause-stated g c) batched is

pub returns-in-None-clause-kept : goal.returns-in-None-clause-kept
returns-in-None-clause-kept g c =
    let job = c.args.job.now in
    let p = problem_in job in
    restated job _ refl refl refl refl refl c.claim_truth.ensures.arity c.claim_truth.ensures.challenge c.claim_truth.ensures.power
    (c.claim_truth.ensures.statements
    ∙ ap (λ xs. all_stated_truly g.EF.Field.ops p.variables (λ b. g.EF.Algebra.embedding (entries g.F.Field.number xs b)) p.statements) c.deref-in-None.ensures.value)

pub returns-in-None-clause-stated : goal.returns-in-None-clause-stated
returns-in-None-clause-stated g c =
    let job = c.args.job.now in
    let p = problem_in job in
    problem-stated job (record job { constraint = c.claim_truth.new.self }) (returns-in-None-clause-kept g c)
    (c.claim_truth.ensures.statements
    ∙ ap (λ xs. all_stated_truly g.EF.Field.ops p.variables (λ b. g.EF.Algebra.embedding (entries g.F.Field.number xs b)) p.statements) c.deref-in-None.ensures.value)

-- a way that takes nothing is one then
pub returns-in-None-clause-way : goal.returns-in-None-clause-way
returns-in-None-clause-way g c =
    let job = c.args.job.now in
    simple-ways job (record job { constraint = c.claim_truth.new.self }) (returns-in-None-clause-kept g c) (returns-in-None-clause-stated g c) c.simple_way.result c.simple_way.ensures
