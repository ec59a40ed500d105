use Rattle.std.proofs.Common.{ap, ◌∙◌}
use Rattle.sc_definitions.specs.Tables.{entries}
use Rattle.sc_definitions.specs.Statements.{first_false_claim}
use Rattle.sc_constraints.specs.FalseClaims.{capped}
use Rattle.sc_jobs.specs.Cases.{problem_in}
use Rattle.sc_jobs.proofs.ClaimTests.{tests_by}
use Rattle.sc_audit.proofs.ways.check_claims.Goals as goal

pub returns : goal.returns
returns g c =
    let p = problem_in c.args.fitting.now.job.now in
    tests_by g.EF.Field.ops p c.first_false.result c.refuse.result
    (c.first_false.ensures.found
    ∙ ap (λ l. capped (first_false_claim g.EF.Field.ops p.variables (λ b. g.EF.Algebra.embedding (entries g.F.Field.number l b)) 0 p.statements)) c.deref.ensures.value)
    c.refuse.ensures
