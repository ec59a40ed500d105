use Rattle.std.proofs.Common.{◌≡◌, ◌≤◌, Some, None, length, refl, sym, ◌∙◌, ap, subst, arith}
use Rattle.std.specs.Option.{option_map}
use Rattle.std.proofs.lemmas.List.Elements.{All-map}
use Rattle.sc_transcript.specs.Data.{pair_of, wire_in}
use Rattle.sc_merge_definitions.specs.Matrices.{MatmulCase, IsMatmulCase}
use Rattle.sc_matmul.specs.MatmulJobs.{fields, claimed_in, case_of}
use Rattle.sc_matmul.specs.Shapes.{or_later, shape_fault, difficulty_fault, early_fault}
use Rattle.sc_matmul.specs.MatmulReports.{GivesResult, matmul_result, result_in}
use Rattle.sc_matmul.specs.FittingClaims.{case_by}
use Rattle.sc_matmul.proofs.SideLaws.{none-first}
use Rattle.sc_matmul.proofs.AuditLaws.{case-is, asked-answered, answered-result, matmul-holds, matmul-certified}
use Rattle.sc_matmul.proofs.audit.audit_matmul.Given.{Over}
use Rattle.sc_matmul.proofs.audit.audit_matmul.Goals.{In_ok-fitting}
use Rattle.sc_matmul.proofs.audit.audit_matmul.Goals as goal

-- the case that is asked
abbrev asked : (g : Over) → In_ok-fitting g → MatmulCase
asked g c =
    case_of (fields g.F.Field.ops g.EF.Field.ops g.EF.Algebra.embedding g.EF.ExtensionField.extension)
    (claimed_in g.F.Field.number c.args.left.now c.args.right.now c.args.claimed.now) c.args.pow_bits (g.C.Challenger.party c.args.challenger.now)

is-case : (g : Over) (c : In_ok-fitting g) → early_fault (asked g c) ≡ None → IsMatmulCase (asked g c)
is-case g c fits =
    let q = asked g c in
    case-is g.F.Field.number (fields g.F.Field.ops g.EF.Field.ops g.EF.Algebra.embedding g.EF.ExtensionField.extension) g.met.F.Field.is_field g.met.EF.Field.is_field g.met.EF.Algebra.embeds
    g.met.F.Field.number_below c.args.left.now c.args.right.now c.args.claimed.now c.args.pow_bits (g.C.Challenger.party c.args.challenger.now)
    (none-first (shape_fault q.left q.right q.claimed) (difficulty_fault q.channel.bits q.channel.rules.max_bits) fits)

-- nothing is refused of it
early : (g : Over) (c : In_ok-fitting g) → early_fault (asked g c) ≡ None
early g c =
    let q = asked g c in
    sym (c.in_ok-fitting.ensures.fault ∙ ap (λ b. or_later (shape_fault q.left q.right q.claimed) (difficulty_fault c.args.pow_bits b)) c.max_bits.ensures)

-- the difficulty is within its bound
bits-most : (g : Over) (c : In_ok-fitting g) → c.in_ok-fitting.fitting.pow_bits ≤ (g.C.Challenger.party c.args.challenger.now).rules.max_bits
bits-most g c =
    let bits : c.in_ok-fitting.fitting.pow_bits ≡ c.args.pow_bits =
    ap (λ (q : MatmulCase). q.channel.bits) (c.in_ok-fitting.ensures.case (g.C.Challenger.party c.args.challenger.now)) in
    omega (arith, bits, c.in_ok-fitting.ensures.difficulty, c.max_bits.ensures)

-- ---- a build

pub build-requires : goal.build-requires
build-requires g c = bits-most g (goal.at.build-requires g c).In_ok-fitting

pub returns-in-None-clause-result : goal.returns-in-None-clause-result
returns-in-None-clause-result g c =
    let at = (goal.at.returns-in-None-clause-result g c).In_ok-fitting in
    let party = g.C.Challenger.party c.args.challenger.now in
    let answer = result_in g.F.Field.number g.EF.Field.number c.build.result in
    let h' = (g.C.Challenger.party c.build.new.challenger).history in
    answered-result (asked g at) _ answer h' (early g at)
    (asked-answered (asked g at) (case_by c.in_ok-fitting.fitting party) _ None answer h' (c.in_ok-fitting.ensures.case party) (ap (option_map _) c.in-None.is) c.build.ensures.answered)

pub returns-in-None-clause-history : goal.returns-in-None-clause-history
returns-in-None-clause-history g c =
    let party = g.C.Challenger.party c.args.challenger.now in
    (asked-answered (asked g (goal.at.returns-in-None-clause-history g c).In_ok-fitting) (case_by c.in_ok-fitting.fitting party) _ None
    (result_in g.F.Field.number g.EF.Field.number c.build.result) (g.C.Challenger.party c.build.new.challenger).history
    (c.in_ok-fitting.ensures.case party) (ap (option_map _) c.in-None.is) c.build.ensures.answered).history

pub returns-in-None-clause-holds : goal.returns-in-None-clause-holds
returns-in-None-clause-holds g c =
    let at = (goal.at.returns-in-None-clause-holds g c).In_ok-fitting in
    matmul-holds (asked g at) (is-case g at) _ (result_in g.F.Field.number g.EF.Field.number c.build.result) (returns-in-None-clause-result g c)

pub returns-in-None-clause-certified : goal.returns-in-None-clause-certified
returns-in-None-clause-certified g c =
    let at = (goal.at.returns-in-None-clause-certified g c).In_ok-fitting in
    let answer = result_in g.F.Field.number g.EF.Field.number c.build.result in
    matmul-certified (asked g at) (is-case g at) None answer tt
    (subst (λ came. GivesResult (matmul_result (asked g at) came) answer) (ap (option_map _) c.in-None.is) (returns-in-None-clause-result g c))

-- ---- a check

pub check-requires : goal.check-requires
check-requires g c = bits-most g (goal.at.check-requires g c).In_ok-fitting

pub returns-in-Some-clause-result : goal.returns-in-Some-clause-result
returns-in-Some-clause-result g c =
    let at = (goal.at.returns-in-Some-clause-result g c).In_ok-fitting in
    let B = g.F.Field.number in
    let N = g.EF.Field.number in
    let party = g.C.Challenger.party c.args.challenger.now in
    let answer = result_in B N c.check.result in
    let h' = (g.C.Challenger.party c.check.new.challenger).history in
    answered-result (asked g at) _ answer h' (early g at)
    (asked-answered (asked g at) (case_by c.in_ok-fitting.fitting party) _ (Some (wire_in B N c.in-Some.proof.now)) answer h' (c.in_ok-fitting.ensures.case party)
    (ap (option_map _) c.in-Some.is) c.check.ensures.answered)

pub returns-in-Some-clause-history : goal.returns-in-Some-clause-history
returns-in-Some-clause-history g c =
    let B = g.F.Field.number in
    let N = g.EF.Field.number in
    let party = g.C.Challenger.party c.args.challenger.now in
    (asked-answered (asked g (goal.at.returns-in-Some-clause-history g c).In_ok-fitting) (case_by c.in_ok-fitting.fitting party) _ (Some (wire_in B N c.in-Some.proof.now))
    (result_in B N c.check.result) (g.C.Challenger.party c.check.new.challenger).history
    (c.in_ok-fitting.ensures.case party) (ap (option_map _) c.in-Some.is) c.check.ensures.answered).history

pub returns-in-Some-clause-certified : goal.returns-in-Some-clause-certified
returns-in-Some-clause-certified g c =
    let at = (goal.at.returns-in-Some-clause-certified g c).In_ok-fitting in
    let B = g.F.Field.number in
    let N = g.EF.Field.number in
    let answer = result_in B N c.check.result in
    matmul-certified (asked g at) (is-case g at) (Some (wire_in B N c.in-Some.proof.now)) answer
    (All-map (λ vs. length vs ≡ 2) (pair_of N) c.in-Some.proof.now.polynomial_evaluations.items (λ k d low. refl))
    (subst (λ came. GivesResult (matmul_result (asked g at) came) answer) (ap (option_map _) c.in-Some.is) (returns-in-Some-clause-result g c))
