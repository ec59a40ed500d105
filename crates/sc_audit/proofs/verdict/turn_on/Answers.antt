use Rattle.std.proofs.Common.{◌≡◌, IfOk, [], map, Some, None, sym, ◌∙◌, ap, subst}
use Rattle.std.specs.Option.{option_map}
use Rattle.sc_definitions.specs.Roots.{root_count}
use Rattle.sc_definitions.specs.Problem.{claim_of}
use Rattle.sc_definitions.specs.TwoTables.{tables_in}
use Rattle.sc_definitions.specs.Lucky.{true_claim_of, course_of, first_turn, in_round}
use Rattle.sc_transcript.specs.Data.{pair_of, messages_in}
use Rattle.sc_rounds.specs.Turns.{turn_in}
use Rattle.sc_jobs.specs.Fitting.{stated_in}
use Rattle.sc_audit_errors.specs.Findings.{lucky, named}
use Rattle.sc_jobs.specs.Figures.{finding_in}
use Rattle.sc_audit.proofs.LuckFound.{luck-round}
use Rattle.sc_audit.proofs.verdict.turn_on.Goals as goal

-- a round made it true
pub returns-in-Some : goal.returns-in-Some
returns-in-Some g c =
    let N = g.EF.Field.number in
    let o = g.EF.Field.ops in
    let p = stated_in c.args.fitting.now in
    let ms = messages_in N c.args.proof.now in
    let rs = map N c.args.challenges.now in
    let turn = c.in-Some.turn in
    let first : Some (turn_in N turn) ≡ first_turn (course_of o p) 0 (claim_of o p) ms [] rs =
    ap (option_map (turn_in N)) (sym c.in-Some.is) ∙ c.in_ok-turn.ensures.found (tables_in o p) p.variables c.in_ok-pair.ensures.pair
    ∙ ap (λ x. first_turn (course_of o p) 0 x (map (pair_of N) c.polynomial_evaluations-messages.result.now) [] (map N c.as_slice.result.now)) c.in_ok-pair.ensures.claim
    ∙ ap (λ l. first_turn (course_of o p) 0 (claim_of o p) (map (pair_of N) l) [] (map N c.as_slice.result.now)) c.polynomial_evaluations-messages.ensures
    ∙ ap (λ l. first_turn (course_of o p) 0 (claim_of o p) ms [] (map N l)) c.as_slice.ensures in
    ap (λ k. lucky (in_round turn.round (map N turn.polynomial) k)) (c.count_roots-vanishing.ensures.count ∙ ap (λ l. root_count o (map N l)) c.as_slice-in-Some.ensures)
    ∙ sym (ap named (luck-round o p ms rs c.requires.wrong (Some (turn_in N turn)) first))

-- none did
pub returns-in-None : goal.returns-in-None
returns-in-None g c =
    let N = g.EF.Field.number in
    let o = g.EF.Field.ops in
    let p = stated_in c.args.fitting.now in
    let ms = messages_in N c.args.proof.now in
    let rs = map N c.args.challenges.now in
    let first : None ≡ first_turn (course_of o p) 0 (claim_of o p) ms [] rs =
    ap (option_map (turn_in N)) (sym c.in-None.is) ∙ c.in_ok-turn.ensures.found (tables_in o p) p.variables c.in_ok-pair.ensures.pair
    ∙ ap (λ x. first_turn (course_of o p) 0 x (map (pair_of N) c.polynomial_evaluations-messages.result.now) [] (map N c.as_slice.result.now)) c.in_ok-pair.ensures.claim
    ∙ ap (λ l. first_turn (course_of o p) 0 (claim_of o p) (map (pair_of N) l) [] (map N c.as_slice.result.now)) c.polynomial_evaluations-messages.ensures
    ∙ ap (λ l. first_turn (course_of o p) 0 (claim_of o p) ms [] (map N l)) c.as_slice.ensures in
    sym (ap named (luck-round o p ms rs c.requires.wrong None first))
