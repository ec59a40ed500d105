use Rattle.std.proofs.Common.{◌≡◌, None, refl, sym, ◌∙◌, ap, subst}
use Rattle.sc_merge_definitions.specs.Openings.{OpeningsCase, first_false_table_claim}
use Rattle.sc_openings.specs.OpeningsJobs.{CameOpenings, came_in}
use Rattle.sc_openings.specs.OpeningsRounds.{proof_fault}
use Rattle.sc_openings.specs.FittingClaims.{case_by}
use Rattle.sc_openings.specs.OpeningsReports.{result_in}
use Rattle.sc_openings.specs.OpeningsAudits.{IsAnswered}
use Rattle.sc_openings.proofs.ReplayLaws.{case-tables, passed_on}
use Rattle.sc_openings.proofs.AuditLaws.{claim-none, false-answered}
use Rattle.sc_openings.proofs.BuildLaws.{built-counted, built-answered, unbuilt-answered}
use Rattle.sc_openings.proofs.building.build.Goals as goal

pub replay_at-requires-clause-counted : goal.replay_at-requires-clause-counted
replay_at-requires-clause-counted g c =
    let B = g.F.Field.number in
    let N = g.EF.Field.number in
    let fitting = c.args.fitting.now in
    let q : OpeningsCase = case_by fitting (g.C.Challenger.party c.args.challenger.now) in
    let came : CameOpenings = came_in B N c.in_ok-built.built.proof in
    ap (λ k. proof_fault k q.variables q.channel.bits came) (sym (case-tables q g.EF.Algebra.embedding B fitting.tables.now refl))
    ∙ built-counted q g.met.EF.Field.is_field.ring came c.in_ok-built.ensures.1

-- what was built is answered as a build
pub returns-clause-answered : goal.returns-clause-answered
returns-clause-answered g c =
    let B = g.F.Field.number in
    let N = g.EF.Field.number in
    let fitting = c.args.fitting.now in
    let party = g.C.Challenger.party c.args.challenger.now in
    let q : OpeningsCase = case_by fitting party in
    let came : CameOpenings = came_in B N c.in_ok-built.built.proof in
    let none : first_false_table_claim q 0 q.claims ≡ None = claim-none (first_false_table_claim q 0 q.claims) (c.in_ok-check_claims.ensures q (c.in_ok-values.ensures party)) in
    built-answered q g.met.EF.Field.is_field.ring came c.in_ok-built.ensures.1 none (result_in B N c.replay_at.result)
    (g.C.Challenger.party c.replay_at.new.challenger).history (c.replay_at.ensures.answered party c.in_ok-built.ensures.0)

-- a claim is false
pub returns-in_err-check_claims-clause-answered : goal.returns-in_err-check_claims-clause-answered
returns-in_err-check_claims-clause-answered g c =
    let B = g.F.Field.number in
    let N = g.EF.Field.number in
    let party = g.C.Challenger.party c.args.challenger.now in
    let q : OpeningsCase = case_by c.args.fitting.now party in
    let e = c.in_err-check_claims.field-0.0 in
    subst (λ a. IsAnswered q None a q.history) (sym (passed_on B N c.from_residual-in_err-check_claims.result e c.from_residual-in_err-check_claims.ensures.1))
    (false-answered q e (sym (c.in_err-check_claims.ensures q (c.in_ok-values.ensures party))))

-- the rounds could not be built
pub returns-in_err-built-clause-answered : goal.returns-in_err-built-clause-answered
returns-in_err-built-clause-answered g c =
    let B = g.F.Field.number in
    let N = g.EF.Field.number in
    let party = g.C.Challenger.party c.args.challenger.now in
    let q : OpeningsCase = case_by c.args.fitting.now party in
    let e = c.in_err-built.field-0.0 in
    let none : first_false_table_claim q 0 q.claims ≡ None = claim-none (first_false_table_claim q 0 q.claims) (c.in_ok-check_claims.ensures q (c.in_ok-values.ensures party)) in
    subst (λ a. IsAnswered q None a q.history) (sym (passed_on B N c.from_residual-in_err-built.result e c.from_residual-in_err-built.ensures.1))
    (unbuilt-answered q g.met.EF.Field.is_field.ring B N g.C.Challenger.party e none c.in_err-built.ensures)
