use Rattle.std.proofs.Common.{◌≡◌, ◌<◌, ◌^◌, Ok, length, map, sym, ◌∙◌, ap, arith}
use Rattle.std.proofs.lemmas.List.{length-map}
use Rattle.sc_definitions.specs.Statements.{claimed_values, true_value, true_values}
use Rattle.sc_constraints.proofs.FalseGroups.{capped-exact}
use Rattle.sc_jobs.specs.Cases.{problem_in}
use Rattle.sc_jobs.proofs.ClaimTests.{tests_by, tests_err}
use Rattle.sc_audit.proofs.ways.true_batch.Goals as goal

-- as many values are claimed as are true
pub first_other-requires : goal.first_other-requires
first_other-requires g c =
    let p = problem_in c.args.fitting.now.job.now in
    let o = g.EF.Field.ops in
    let N = g.EF.Field.number in
    let claimed : map N c.deref.result.now ≡ claimed_values p.statements = ap (map N) c.deref.ensures.value ∙ c.in_ok-found.ensures.claimed in
    let actual : map N c.deref-2.result.now ≡ true_values o p.variables p.table p.statements = ap (map N) c.deref-2.ensures.value ∙ c.in_ok-found.ensures.actual in
    omega (
      arith,
      length-map c.deref-2.result.now N,
      ap length actual,
      length-map p.statements (λ s. true_value o p.variables p.table s.kind),
      length-map c.deref.result.now N,
      ap length claimed,
      length-map p.statements (λ s. s.claimed),
    )

-- a false statement is refused
pub returns-in_err-refuse-clause-tests : goal.returns-in_err-refuse-clause-tests
returns-in_err-refuse-clause-tests g c =
    let p = problem_in c.args.fitting.now.job.now in
    let o = g.EF.Field.ops in
    let N = g.EF.Field.number in
    let found = c.in_ok-found.found.claimed in
    let claimed : map N c.deref.result.now ≡ claimed_values p.statements = ap (map N) c.deref.ensures.value ∙ c.in_ok-found.ensures.claimed in
    let actual : map N c.deref-2.result.now ≡ true_values o p.variables p.table p.statements = ap (map N) c.deref-2.ensures.value ∙ c.in_ok-found.ensures.actual in
    let few : length p.statements < 2 ^ 64 = omega (arith, length-map found.items N, ap length c.in_ok-found.ensures.claimed, length-map p.statements (λ s. s.claimed), found.small) in
    tests_err o p c.first_other.result c.from_residual-in_err-refuse.result _ c.from_residual-in_err-refuse.ensures.1
    (c.first_other.ensures p.variables p.table p.statements claimed actual ∙ sym (capped-exact o p.variables p.table p.statements few)) c.in_err-refuse.ensures

-- there is none
pub returns-clause-tests : goal.returns-clause-tests
returns-clause-tests g c =
    let p = problem_in c.args.fitting.now.job.now in
    let o = g.EF.Field.ops in
    let N = g.EF.Field.number in
    let found = c.in_ok-found.found.claimed in
    let claimed : map N c.deref.result.now ≡ claimed_values p.statements = ap (map N) c.deref.ensures.value ∙ c.in_ok-found.ensures.claimed in
    let actual : map N c.deref-2.result.now ≡ true_values o p.variables p.table p.statements = ap (map N) c.deref-2.ensures.value ∙ c.in_ok-found.ensures.actual in
    let few : length p.statements < 2 ^ 64 = omega (arith, length-map found.items N, ap length c.in_ok-found.ensures.claimed, length-map p.statements (λ s. s.claimed), found.small) in
    tests_by o p c.first_other.result (Ok c.in_ok-refuse.field-0)
    (c.first_other.ensures p.variables p.table p.statements claimed actual ∙ sym (capped-exact o p.variables p.table p.statements few)) c.in_ok-refuse.ensures
