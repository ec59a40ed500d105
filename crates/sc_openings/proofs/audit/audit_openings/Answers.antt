use Rattle.std.proofs.Common.{◌≡◌, ◌≤◌, Some, None, length, map, refl, sym, ◌∙◌, ap, subst, arith}
use Rattle.std.specs.Option.{option_map}
use Rattle.std.proofs.lemmas.List.Elements.{All-map}
use Rattle.sc_transcript.specs.Data.{pair_of}
use Rattle.sc_merge_definitions.specs.Openings.{OpeningsCase, IsOpeningsCase}
use Rattle.sc_openings.specs.OpeningsJobs.{OpeningsJob, fields, claimed_in, job_of, came_in}
use Rattle.sc_openings.specs.Shapes.{or_later, shape_fault, difficulty_fault, early_fault}
use Rattle.sc_openings.specs.OpeningsReports.{GivesResult, openings_result, result_in}
use Rattle.sc_openings.specs.OpeningsAudits.{LeavesHistory}
use Rattle.sc_openings.specs.FittingClaims.{case_by}
use Rattle.sc_openings.proofs.ShapeLaws.{none-first, lens-same}
use Rattle.sc_openings.proofs.ReplayLaws.{passed_on}
use Rattle.sc_openings.proofs.AuditLaws.{refused-result, refused-history, case-is, asked-answered, answered-result, openings-hold, openings-certified}
use Rattle.sc_openings.proofs.audit.audit_openings.Given.{Over}
use Rattle.sc_openings.proofs.audit.audit_openings.Goals.{After-max_bits-bound, In_ok-fitting}
use Rattle.sc_openings.proofs.audit.audit_openings.Goals as goal

-- what is asked
abbrev job : (g : Over) → After-max_bits-bound g → OpeningsJob
job g c =
    job_of (fields g.F.Field.ops g.EF.Field.ops g.EF.Algebra.embedding g.EF.ExtensionField.extension)
    (claimed_in g.F.Field.number g.EF.Field.number c.args.num_variables c.args.tables.now c.args.claims.now) c.args.pow_bits (g.C.Challenger.party c.args.challenger.now)

-- what is refused of it, by the lengths of the tables in memory
early-is : (g : Over) (c : After-max_bits-bound g) → let j = job g c in
    early_fault j
    ≡ or_later (shape_fault c.args.num_variables (map (λ t. length t.items) c.args.tables.now) j.case.claims) (difficulty_fault c.args.pow_bits c.max_bits-bound.result)
early-is g c =
    let claims = (job g c).case.claims in
    ap (λ l. or_later (shape_fault c.args.num_variables l claims) (difficulty_fault c.args.pow_bits (g.C.Challenger.party c.args.challenger.now).rules.max_bits))
    (lens-same g.F.Field.number c.args.tables.now)
    ∙ sym (ap (λ b. or_later (shape_fault c.args.num_variables (map (λ t. length t.items) c.args.tables.now) claims) (difficulty_fault c.args.pow_bits b)) c.max_bits-bound.ensures)

-- it is a case where nothing is
is-case : (g : Over) (c : After-max_bits-bound g) → early_fault (job g c) ≡ None → IsOpeningsCase (job g c).case
is-case g c fits =
    let j = job g c in
    let n = c.args.num_variables in
    case-is g.F.Field.number g.EF.Field.number (fields g.F.Field.ops g.EF.Field.ops g.EF.Algebra.embedding g.EF.ExtensionField.extension) n c.args.tables.now c.args.claims.now c.args.pow_bits
    (g.C.Challenger.party c.args.challenger.now) g.met.EF.Field.is_field g.met.EF.Field.number_below c.requires.some
    (ap (λ l. shape_fault n l j.case.claims) (sym (lens-same g.F.Field.number c.args.tables.now))
    ∙ none-first (shape_fault n j.lengths j.case.claims) (difficulty_fault j.case.channel.bits j.case.channel.rules.max_bits) fits)

-- the difficulty is within its bound
bits-most : (g : Over) (c : In_ok-fitting g) → c.in_ok-fitting.fitting.pow_bits ≤ (g.C.Challenger.party c.args.challenger.now).rules.max_bits
bits-most g c =
    let bits : c.in_ok-fitting.fitting.pow_bits ≡ c.args.pow_bits =
    ap (λ (q : OpeningsCase). q.channel.bits) (c.in_ok-fitting.ensures.case (g.C.Challenger.party c.args.challenger.now)) in
    omega (arith, bits, c.in_ok-fitting.ensures.difficulty, c.max_bits-bound.ensures)

-- ---- the tables, the claims or the difficulty do not fit

pub returns-in_err-fitting-clause-result : goal.returns-in_err-fitting-clause-result
returns-in_err-fitting-clause-result g c =
    let at = (goal.at.returns-in_err-fitting-clause-result g c).After-max_bits-bound in
    let e = c.in_err-fitting.field-0.0 in
    subst (GivesResult (openings_result (job g at) _)) (sym (passed_on g.F.Field.number g.EF.Field.number c.from_residual.result e c.from_residual.ensures.1))
    (refused-result (job g at) _ e (early-is g at ∙ sym c.in_err-fitting.ensures.fault))

pub returns-in_err-fitting-clause-history : goal.returns-in_err-fitting-clause-history
returns-in_err-fitting-clause-history g c =
    let at = (goal.at.returns-in_err-fitting-clause-history g c).After-max_bits-bound in
    let B = g.F.Field.number in
    let N = g.EF.Field.number in
    let j = job g at in
    let e = c.in_err-fitting.field-0.0 in
    let came = option_map (λ p. came_in B N p.now) c.args.proof in
    subst (λ a. LeavesHistory j.case came a j.case.history) (sym (passed_on B N c.from_residual.result e c.from_residual.ensures.1))
    (refused-history j came e (early-is g at ∙ sym c.in_err-fitting.ensures.fault))

pub returns-in_err-fitting-clause-holds : goal.returns-in_err-fitting-clause-holds
returns-in_err-fitting-clause-holds g c = λ fits build none.
    let bad = sym (early-is g (goal.at.returns-in_err-fitting-clause-holds g c).After-max_bits-bound ∙ sym c.in_err-fitting.ensures.fault) ∙ fits in
    cc

-- ---- a build

pub build-requires : goal.build-requires
build-requires g c = bits-most g (goal.at.build-requires g c).In_ok-fitting

pub returns-in-None-clause-result : goal.returns-in-None-clause-result
returns-in-None-clause-result g c =
    let at = (goal.at.returns-in-None-clause-result g c).After-max_bits-bound in
    let answer = result_in g.F.Field.number g.EF.Field.number c.build.result in
    let h' = (g.C.Challenger.party c.build.new.challenger).history in
    let party = g.C.Challenger.party c.args.challenger.now in
    answered-result (job g at) _ answer h' (early-is g at ∙ sym c.in_ok-fitting.ensures.fault)
    (asked-answered (job g at).case (case_by c.in_ok-fitting.fitting party) _ None answer h' (c.in_ok-fitting.ensures.case party) (ap (option_map _) c.in-None.is) c.build.ensures.answered)

pub returns-in-None-clause-history : goal.returns-in-None-clause-history
returns-in-None-clause-history g c =
    let party = g.C.Challenger.party c.args.challenger.now in
    (asked-answered (job g (goal.at.returns-in-None-clause-history g c).After-max_bits-bound).case (case_by c.in_ok-fitting.fitting party) _ None
    (result_in g.F.Field.number g.EF.Field.number c.build.result) (g.C.Challenger.party c.build.new.challenger).history
    (c.in_ok-fitting.ensures.case party) (ap (option_map _) c.in-None.is) c.build.ensures.answered).history

pub returns-in-None-clause-holds : goal.returns-in-None-clause-holds
returns-in-None-clause-holds g c =
    let at = (goal.at.returns-in-None-clause-holds g c).After-max_bits-bound in
    openings-hold (job g at) (is-case g at) _ (result_in g.F.Field.number g.EF.Field.number c.build.result) (returns-in-None-clause-result g c)

pub returns-in-None-clause-certified : goal.returns-in-None-clause-certified
returns-in-None-clause-certified g c =
    let at = (goal.at.returns-in-None-clause-certified g c).After-max_bits-bound in
    let answer = result_in g.F.Field.number g.EF.Field.number c.build.result in
    openings-certified (job g at) (is-case g at) None answer tt
    (subst (λ came. GivesResult (openings_result (job g at) came) answer) (ap (option_map _) c.in-None.is) (returns-in-None-clause-result g c))

-- ---- a check

pub check-requires : goal.check-requires
check-requires g c = bits-most g (goal.at.check-requires g c).In_ok-fitting

pub returns-in-Some-clause-result : goal.returns-in-Some-clause-result
returns-in-Some-clause-result g c =
    let at = (goal.at.returns-in-Some-clause-result g c).After-max_bits-bound in
    let B = g.F.Field.number in
    let N = g.EF.Field.number in
    let answer = result_in B N c.check.result in
    let h' = (g.C.Challenger.party c.check.new.challenger).history in
    let party = g.C.Challenger.party c.args.challenger.now in
    answered-result (job g at) _ answer h' (early-is g at ∙ sym c.in_ok-fitting.ensures.fault)
    (asked-answered (job g at).case (case_by c.in_ok-fitting.fitting party) _ (Some (came_in B N c.in-Some.proof.now)) answer h' (c.in_ok-fitting.ensures.case party)
    (ap (option_map _) c.in-Some.is) c.check.ensures.answered)

pub returns-in-Some-clause-history : goal.returns-in-Some-clause-history
returns-in-Some-clause-history g c =
    let B = g.F.Field.number in
    let N = g.EF.Field.number in
    let party = g.C.Challenger.party c.args.challenger.now in
    (asked-answered (job g (goal.at.returns-in-Some-clause-history g c).After-max_bits-bound).case (case_by c.in_ok-fitting.fitting party) _ (Some (came_in B N c.in-Some.proof.now))
    (result_in B N c.check.result) (g.C.Challenger.party c.check.new.challenger).history
    (c.in_ok-fitting.ensures.case party) (ap (option_map _) c.in-Some.is) c.check.ensures.answered).history

pub returns-in-Some-clause-certified : goal.returns-in-Some-clause-certified
returns-in-Some-clause-certified g c =
    let at = (goal.at.returns-in-Some-clause-certified g c).After-max_bits-bound in
    let B = g.F.Field.number in
    let N = g.EF.Field.number in
    let answer = result_in B N c.check.result in
    openings-certified (job g at) (is-case g at) (Some (came_in B N c.in-Some.proof.now)) answer
    (All-map (λ vs. length vs ≡ 2) (pair_of N) c.in-Some.proof.now.rounds.polynomial_evaluations.items (λ k d low. refl))
    (subst (λ came. GivesResult (openings_result (job g at) came) answer) (ap (option_map _) c.in-Some.is) (returns-in-Some-clause-result g c))
