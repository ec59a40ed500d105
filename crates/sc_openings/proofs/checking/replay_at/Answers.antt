use Rattle.std.proofs.Common.{◌≡◌, ◌++◌, Err, length, map, Some, refl, sym, ◌∙◌, ap, subst}
use Rattle.std.proofs.lemmas.List.{length-map}
use Rattle.sc_definitions.specs.Channels.{VerifierState, verifier_state}
use Rattle.sc_challenger.specs.Parties.{Party}
use Rattle.sc_definitions.specs.Statements.{batched_by_powers}
use Rattle.sc_definitions.specs.Transcript.{sent}
use Rattle.sc_transcript.specs.Causes.{cause_of}
use Rattle.sc_transcript.specs.Walks.{IsWalked}
use Rattle.sc_transcript.specs.Replayed.{Replay, LeavesReplay, IsUnmoved, caller_state}
use Rattle.sc_merge_definitions.specs.Openings.{OpeningsCase, merging_challenge, merging_claim}
use Rattle.sc_openings.specs.declared.error.MergeError.TheVariants.{NoMemory}
use Rattle.sc_openings.specs.OpeningsJobs.{CameOpenings, came_in}
use Rattle.sc_openings.specs.FittingClaims.{case_by}
use Rattle.sc_openings.specs.OpeningsReports.{figures_in}
use Rattle.sc_openings.specs.OpeningsAudits.{IsAnswered}
use Rattle.sc_openings.specs.OpeningsPlays.{IsDrawnAt}
use Rattle.sc_openings.proofs.ReplayLaws.{rounds-counted, walked-count, counted-case, replay_for, replay-is, residual-is, whole-answered, whole-broken, rounds-broken, refused-answered, passed_on}
use Rattle.sc_openings.proofs.checking.replay_at.Given.{Over}
use Rattle.sc_openings.proofs.checking.replay_at.Goals.{After-claim_at-claim, In-Ok}
use Rattle.sc_openings.proofs.checking.replay_at.Goals as goal

-- where whole rounds end
abbrev end : (g : Over) → In-Ok g → VerifierState
end g c = verifier_state (g.C.Challenger.party c.verify_rounds.new.challenger).history (g.EF.Field.number c.verify_rounds.new.claimed_sum)

module _ (g : Over) (party : Party) where
  -- the merged claim
  claim-is : (c : After-claim_at-claim g) → let q = case_by c.args.fitting.now party in
      IsDrawnAt g.EF.Field.number q c.args.challenge (g.C.Challenger.party c.args.challenger.now) → g.EF.Field.number c.claim_at-claim.result ≡ merging_claim q
  claim-is c at =
      let N = g.EF.Field.number in
      let q : OpeningsCase = case_by c.args.fitting.now party in
      c.claim_at-claim.ensures ∙ ap (λ x. batched_by_powers q.ops x 0 (map N c.deref.result.now)) at.challenge
      ∙ ap (batched_by_powers q.ops (merging_challenge q) 0) (ap (map N) c.deref.ensures.value ∙ (c.requires.values party).claimed)

  -- the rounds were replayed on it
  walked : (c : In-Ok g) → let q = case_by c.args.fitting.now party in
      IsDrawnAt g.EF.Field.number q c.args.challenge (g.C.Challenger.party c.args.challenger.now) → g.EF.Field.number c.claim_at-claim.result ≡ merging_claim q →
      IsWalked (replay_for q (came_in g.F.Field.number g.EF.Field.number c.args.proof)).walk (map g.EF.Field.number c.in-Ok.challenges) (end g c)
  walked c at claim =
      subst (λ (p : Replay). IsWalked p.walk (map g.EF.Field.number c.in-Ok.challenges) (end g c))
      (replay-is (case_by c.args.fitting.now party) (came_in g.F.Field.number g.EF.Field.number c.args.proof) at.rules at.history refl (sym g.met.EF.ExtensionField.degree_is) claim)
      c.in-Ok.ensures.left.1

-- a replay that was refused
pub returns-in-Err-clause-answered : goal.returns-in-Err-clause-answered
returns-in-Err-clause-answered g c = λ party at.
    let B = g.F.Field.number in
    let fitting = c.args.fitting.now in
    let q : OpeningsCase = case_by fitting party in
    let came : CameOpenings = came_in B g.EF.Field.number c.args.proof in
    let none = counted-case q came g.EF.Algebra.embedding B fitting.tables.now refl c.requires.counted in
    let claim = claim-is g party (goal.at.returns-in-Err-clause-answered g c).After-claim_at-claim at in
    let after = g.C.Challenger.party c.verify_rounds.new.challenger in
    let stop : VerifierState = verifier_state after.history (g.EF.Field.number c.verify_rounds.new.claimed_sum) in
    let untouched = IsUnmoved (caller_state (g.C.Challenger.party c.args.challenger.now) c.claim_at-claim.result) (caller_state after c.verify_rounds.new.claimed_sum) in
    let same = replay-is q came at.rules at.history refl (sym g.met.EF.ExtensionField.degree_is) claim in
    let left = subst (λ (p : Replay). LeavesReplay untouched p (Err (cause_of c.in-Err.error)) stop) same c.in-Err.ensures.left in
    subst (λ x. IsAnswered q (Some came) (Err x) after.history) (sym c.refusal.ensures)
    (refused-answered q came none untouched c.in-Err.error stop (λ kept. kept.0 ∙ at.history) left)

-- there was no memory for the openings
pub returns-in_err-observe_openings-clause-answered : goal.returns-in_err-observe_openings-clause-answered
returns-in_err-observe_openings-clause-answered g c = λ party at.
    let before = goal.at.returns-in_err-observe_openings-clause-answered g c in
    let B = g.F.Field.number in
    let N = g.EF.Field.number in
    let fitting = c.args.fitting.now in
    let q : OpeningsCase = case_by fitting party in
    let came : CameOpenings = came_in B N c.args.proof in
    let none = counted-case q came g.EF.Algebra.embedding B fitting.tables.now refl c.requires.counted in
    let h' = (g.C.Challenger.party c.observe_openings.new.challenger).history in
    subst (λ a. IsAnswered q (Some came) a h') (sym (passed_on B N c.from_residual.result NoMemory c.from_residual.ensures.1))
    (rounds-broken q came none (map N c.in-Ok.challenges) (end g before.In-Ok) h' (walked g party before.In-Ok at (claim-is g party before.After-claim_at-claim at))
    c.in_err-observe_openings.ensures.history)

-- there are as many challenges as variables
pub report_on-requires-clause-challenges : goal.report_on-requires-clause-challenges
report_on-requires-clause-challenges g c =
    let N = g.EF.Field.number in
    let fitting = c.args.fitting.now in
    let came : CameOpenings = came_in g.F.Field.number N c.args.proof in
    sym (length-map c.in-Ok.challenges N)
    ∙ walked-count _ came.wire (map N c.in-Ok.challenges) (end g (goal.at.report_on-requires-clause-challenges g c).In-Ok) refl c.in-Ok.ensures.left.1
    ∙ (rounds-counted (length fitting.tables.now) fitting.num_variables fitting.pow_bits came c.requires.counted).0

-- there was no memory for the report
pub returns-in_err-report-clause-answered : goal.returns-in_err-report-clause-answered
returns-in_err-report-clause-answered g c = λ party at.
    let before = goal.at.returns-in_err-report-clause-answered g c in
    let B = g.F.Field.number in
    let N = g.EF.Field.number in
    let fitting = c.args.fitting.now in
    let q : OpeningsCase = case_by fitting party in
    let came : CameOpenings = came_in B N c.args.proof in
    let none = counted-case q came g.EF.Algebra.embedding B fitting.tables.now refl c.requires.counted in
    let stop = end g before.In-Ok in
    let h' = (g.C.Challenger.party c.observe_openings.new.challenger).history in
    let opened = c.in_ok-observe_openings.ensures.history ∙ ap (λ l. stop.history ++ sent g.EF.ExtensionField.extension (map N l)) c.deref-2.ensures.value in
    subst (λ a. IsAnswered q (Some came) a h') (sym (passed_on B N c.from_residual-in_err-report.result NoMemory c.from_residual-in_err-report.ensures.1))
    (whole-broken q came none (map N c.in-Ok.challenges) stop h' (walked g party before.In-Ok at (claim-is g party before.After-claim_at-claim at)) opened)

-- a replay that was reported on
pub returns-clause-answered : goal.returns-clause-answered
returns-clause-answered g c = λ party at.
    let before = goal.at.returns-clause-answered g c in
    let B = g.F.Field.number in
    let N = g.EF.Field.number in
    let fitting = c.args.fitting.now in
    let q : OpeningsCase = case_by fitting party in
    let came : CameOpenings = came_in B N c.args.proof in
    let none = counted-case q came g.EF.Algebra.embedding B fitting.tables.now refl c.requires.counted in
    let claim = claim-is g party before.After-claim_at-claim at in
    let rs = map N c.in-Ok.challenges in
    let stop = end g before.In-Ok in
    let replayed = walked g party before.In-Ok at claim in
    let opened = c.in_ok-observe_openings.ensures.history ∙ ap (λ l. stop.history ++ sent g.EF.ExtensionField.extension (map N l)) c.deref-2.ensures.value in
    whole-answered q came none rs stop (figures_in B N c.in_ok-report.report) (g.C.Challenger.party c.observe_openings.new.challenger).history replayed opened
    (c.in_ok-report.ensures party
    (record { challenge = at.challenge; claim = claim; challenges = replayed.replays.drawn; residual = residual-is q came none rs stop replayed }))
