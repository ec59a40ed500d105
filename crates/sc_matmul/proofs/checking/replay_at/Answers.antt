use Rattle.std.proofs.Common.{◌≡◌, Err, map, Some, refl, sym, ◌∙◌, ap, subst}
use Rattle.std.proofs.lemmas.List.{length-map}
use Rattle.sc_definitions.specs.Channels.{VerifierState, verifier_state}
use Rattle.sc_challenger.specs.Parties.{Party}
use Rattle.sc_definitions.specs.Statements.{batched_by_powers}
use Rattle.sc_transcript.specs.Causes.{cause_of}
use Rattle.sc_transcript.specs.Data.{wire_in}
use Rattle.sc_transcript.specs.Walks.{IsWalked}
use Rattle.sc_transcript.specs.Replayed.{Replay, LeavesReplay, IsUnmoved, caller_state}
use Rattle.sc_merge_definitions.specs.Matrices.{side_variables, MatmulCase, drawn_point, entries_claim}
use Rattle.sc_matmul.specs.declared.error.MatmulError.TheVariants.{NoMemory}
use Rattle.sc_matmul.specs.MatrixViews.{cols_in}
use Rattle.sc_matmul.specs.FittingClaims.{case_by}
use Rattle.sc_matmul.specs.MatmulReports.{figures_in}
use Rattle.sc_matmul.specs.MatmulAudits.{IsAnswered}
use Rattle.sc_matmul.specs.MatmulPlays.{IsDrawnAt}
use Rattle.sc_matmul.proofs.ReplayLaws.{counted, walked-count, replay_for, replay-is, residual-is, whole-answered, whole-broken, refused-answered, passed_on}
use Rattle.sc_matmul.proofs.checking.replay_at.Given.{Over}
use Rattle.sc_matmul.proofs.checking.replay_at.Goals.{After-variables, In-Ok}
use Rattle.sc_matmul.proofs.checking.replay_at.Goals as goal

-- where whole rounds end
abbrev end : (g : Over) → In-Ok g → VerifierState
end g c = verifier_state (g.C.Challenger.party c.verify_rounds.new.challenger).history (g.EF.Field.number c.verify_rounds.new.claimed_sum)

module _ (g : Over) (party : Party) where
  -- the claim at the point
  claim-is : (c : After-variables g) → let q = case_by c.args.fitting.now party in
      IsDrawnAt g.EF.Field.number q c.args.point (g.C.Challenger.party c.args.challenger.now) → g.EF.Field.number c.claim_at-claim.result ≡ entries_claim q
  claim-is c at =
      let emb = g.EF.Algebra.embedding in
      let B = g.F.Field.number in
      let q : MatmulCase = case_by c.args.fitting.now party in
      c.claim_at-claim.ensures ∙ ap (λ x. batched_by_powers q.ops x 0 (map emb (map B c.as_slice.result.now))) at.point
      ∙ ap (λ l. batched_by_powers q.ops (drawn_point q) 0 (map emb (map B l))) c.as_slice.ensures

  -- the rounds were replayed on it
  walked : (c : In-Ok g) → let q = case_by c.args.fitting.now party in
      IsDrawnAt g.EF.Field.number q c.args.point (g.C.Challenger.party c.args.challenger.now) → g.EF.Field.number c.claim_at-claim.result ≡ entries_claim q →
      IsWalked (replay_for q (wire_in g.F.Field.number g.EF.Field.number c.args.rounds)).walk (map g.EF.Field.number c.in-Ok.challenges) (end g c)
  walked c at claim =
      subst (λ (p : Replay). IsWalked p.walk (map g.EF.Field.number c.in-Ok.challenges) (end g c))
      (replay-is (case_by c.args.fitting.now party) (wire_in g.F.Field.number g.EF.Field.number c.args.rounds) at.rules at.history c.variables.ensures.number
      (sym g.met.EF.ExtensionField.degree_is) claim)
      c.in-Ok.ensures.left.1

-- a replay that was refused
pub returns-in-Err-clause-answered : goal.returns-in-Err-clause-answered
returns-in-Err-clause-answered g c = λ party at.
    let q : MatmulCase = case_by c.args.fitting.now party in
    let w = wire_in g.F.Field.number g.EF.Field.number c.args.rounds in
    let claim = claim-is g party (goal.at.returns-in-Err-clause-answered g c).After-variables at in
    let after = g.C.Challenger.party c.verify_rounds.new.challenger in
    let stop : VerifierState = verifier_state after.history (g.EF.Field.number c.verify_rounds.new.claimed_sum) in
    let untouched = IsUnmoved (caller_state (g.C.Challenger.party c.args.challenger.now) c.claim_at-claim.result) (caller_state after c.verify_rounds.new.claimed_sum) in
    let same = replay-is q w at.rules at.history c.variables.ensures.number (sym g.met.EF.ExtensionField.degree_is) claim in
    let left = subst (λ (p : Replay). LeavesReplay untouched p (Err (cause_of c.in-Err.error)) stop) same c.in-Err.ensures.left in
    subst (λ x. IsAnswered q (Some w) (Err x) after.history) (sym c.refusal.ensures)
    (refused-answered q w c.requires.counted untouched c.in-Err.error stop (λ kept. kept.0 ∙ at.history) left)

-- there are as many challenges as variables
pub report_on-requires-clause-challenges : goal.report_on-requires-clause-challenges
report_on-requires-clause-challenges g c =
    let N = g.EF.Field.number in
    let w = wire_in g.F.Field.number N c.args.rounds in
    sym (length-map c.in-Ok.challenges N)
    ∙ walked-count _ w (map N c.in-Ok.challenges) (end g (goal.at.report_on-requires-clause-challenges g c).In-Ok) refl c.in-Ok.ensures.left.1
    ∙ (counted (side_variables (cols_in c.args.fitting.now.left.now)) c.args.fitting.now.pow_bits w c.requires.counted).0

-- there was no memory for the report
pub returns-in_err-report-clause-answered : goal.returns-in_err-report-clause-answered
returns-in_err-report-clause-answered g c = λ party at.
    let before = goal.at.returns-in_err-report-clause-answered g c in
    let B = g.F.Field.number in
    let N = g.EF.Field.number in
    let q : MatmulCase = case_by c.args.fitting.now party in
    let w = wire_in B N c.args.rounds in
    subst (λ a. IsAnswered q (Some w) a (end g before.In-Ok).history) (sym (passed_on B N c.from_residual.result NoMemory c.from_residual.ensures.1))
    (whole-broken q w c.requires.counted (map N c.in-Ok.challenges) (end g before.In-Ok) (walked g party before.In-Ok at (claim-is g party before.After-variables at)))

-- a replay that was reported on
pub returns-clause-answered : goal.returns-clause-answered
returns-clause-answered g c = λ party at.
    let before = goal.at.returns-clause-answered g c in
    let B = g.F.Field.number in
    let N = g.EF.Field.number in
    let q : MatmulCase = case_by c.args.fitting.now party in
    let w = wire_in B N c.args.rounds in
    let claim = claim-is g party before.After-variables at in
    let rs = map N c.in-Ok.challenges in
    let stop = end g before.In-Ok in
    let replayed = walked g party before.In-Ok at claim in
    whole-answered q w c.requires.counted rs stop (figures_in B N c.in_ok-report.report) replayed
    (c.in_ok-report.ensures party
    (record { point = at.point; claim = claim; challenges = replayed.replays.drawn; residual = residual-is q w c.requires.counted rs stop replayed }))
