use Rattle.std.proofs.Common.{◌≡◌, ℕ, List, length, map, sym, ◌∙◌, ap, subst}
use Rattle.std.specs.Option.{option_map}
use Rattle.std.proofs.lemmas.List.{length-map}
use Rattle.sc_definitions.specs.Ring.{Ops, IsRing}
use Rattle.sc_definitions.specs.Polynomials.{poly_minus}
use Rattle.sc_definitions.specs.Roots.{root_count}
use Rattle.sc_definitions.specs.Lucky.{luck_in, in_batch, in_round}
use Rattle.sc_definitions.proofs.ReplayLaws.{messages-given_rounds}
use Rattle.sc_transcript.specs.Data.{pair_of, wire_in}
use Rattle.sc_audit_errors.specs.Findings.{Finding, lucky, named}
use Rattle.sc_soundness.specs.Merged.{merged_inner}
use Rattle.sc_merge_definitions.specs.Openings.{OpeningsCase, openings_stage}
use Rattle.sc_merge_definitions.proofs.FindingLaws.{ok-then, luck-drawn, luck-round}
use Rattle.sc_merged.specs.MergedViews.{left_in, pairs_in}
use Rattle.sc_merged.specs.MergedTurns.{turn_in}
use Rattle.sc_openings.specs.OpeningsRounds.{rounds_given}
use Rattle.sc_openings.specs.OpeningsPlays.{IsPlayedOn, played_luck}
use Rattle.sc_openings.proofs.VerdictLaws.{sum-tables, turn-first, excess-is}
use Rattle.sc_openings.proofs.verdict.luck_on.Given.{Over}
use Rattle.sc_openings.proofs.verdict.luck_on.Goals.{In_ok-turn}
use Rattle.sc_openings.proofs.verdict.luck_on.Goals as goal

-- the merged claim is true
pub returns-then-index : goal.returns-then-index
returns-then-index g c =
    let B = g.F.Field.number in
    let N = g.EF.Field.number in
    let values = c.args.values.now in
    let tables = c.args.tables in
    let P : Ops → List ℕ → List ℕ → Finding = λ o xs ys. lucky (in_batch (poly_minus o xs ys) (root_count o (poly_minus o xs ys))) in
    ok-then c.batch_verdict.result c.batch_verdict.ensures (λ v told q ops is on.
    let ring = subst IsRing (sym ops) g.met.EF.Field.is_field.ring in
    let s = openings_stage q (rounds_given (wire_in B N c.args.played.now.proof.rounds)) in
    let same : s.claim ≡ s.truth =
    sym on.played.claim ∙ sym c.index.ensures ∙ c.if-index.true ∙ c.index-2.ensures ∙ c.sum.ensures ∙ ap (λ o. merged_inner o (left_in tables) (pairs_in N tables)) (sym ops)
    ∙ sum-tables q ring (pairs_in N tables) (left_in tables) on.tables.variables on.tables.rows in
    told ∙ ap (λ o. P o (map N c.deref.result.now) (map N c.deref-then-index.result.now)) (sym ops)
    ∙ ap (λ l. P q.ops l (map N c.deref-then-index.result.now)) (ap (map N) c.deref.ensures.value ∙ is.claimed)
    ∙ ap (P q.ops _) (ap (map N) c.deref-then-index.ensures.value ∙ is.truths)
    ∙ ap (λ xs. lucky (in_batch xs (root_count q.ops xs))) (sym (excess-is q q.claims))
    ∙ sym (ap named (luck-drawn q.ops s same)))

-- it is false: the first lucky challenge is that of the round that is found
luck : (g : Over) (c : In_ok-turn g) (q : OpeningsCase) → q.ops ≡ g.EF.Field.ops → IsPlayedOn g.F.Field.number g.EF.Field.number q c.args.played.now c.args.tables →
    played_luck g.F.Field.number g.EF.Field.number q c.args.played.now ≡ option_map (luck_in q.ops) (option_map (turn_in g.EF.Field.number) c.in_ok-turn.field-0)
luck g c q ops on =
    let N = g.EF.Field.number in
    let ring = subst IsRing (sym ops) g.met.EF.Field.is_field.ring in
    let tables = c.args.tables in
    let ps = pairs_in N tables in
    let played = c.args.played.now in
    let w = wire_in g.F.Field.number N played.proof.rounds in
    let s = openings_stage q (rounds_given w) in
    let ms = map (pair_of N) c.as_slice-messages.result.now in
    let other : s.claim ≡ s.truth → ⊥ = λ e.
    c.if-index.false (c.index.ensures ∙ on.played.claim ∙ e ∙ sym (sum-tables q ring ps (left_in tables) on.tables.variables on.tables.rows)
    ∙ ap (λ o. merged_inner o (left_in tables) ps) ops ∙ sym c.sum.ensures ∙ sym c.index-2.ensures) in
    let count : length ms ≡ q.variables = length-map c.as_slice-messages.result.now (pair_of N) ∙ ap length c.as_slice-messages.ensures.value ∙ c.requires.messages ∙ on.tables.variables in
    let sent = ap (map (pair_of N)) c.as_slice-messages.ensures.value ∙ sym (messages-given_rounds w.messages w.witnesses) in
    let drawn = ap (map N) c.as_slice-challenges.ensures ∙ on.played.challenges in
    luck-round q.ops s other
    (c.in_ok-turn.ensures.found
    ∙ turn-first q ring g.EF.Field.ops ops ps (N played.claim) ms (map N c.as_slice-challenges.result.now) (rounds_given w) on.tables.rows count on.played.claim sent drawn)

-- a round made it true
pub returns-in-Some : goal.returns-in-Some
returns-in-Some g c = λ q ops is on.
    let N = g.EF.Field.number in
    let turn = c.in-Some.turn in
    ap (λ n. lucky (in_round turn.round (map N turn.polynomial) n)) (c.count_roots-vanishing.ensures.count ∙ ap (λ l. root_count g.EF.Field.ops (map N l)) c.as_slice.ensures
    ∙ ap (λ k. root_count k (map N turn.polynomial)) (sym ops))
    ∙ sym (ap named (luck g (goal.at.returns-in-Some g c).In_ok-turn q ops on ∙ ap (λ t. option_map (luck_in q.ops) (option_map (turn_in N) t)) c.in-Some.is))

-- none did
pub returns-in-None : goal.returns-in-None
returns-in-None g c = λ q ops is on.
    sym (ap named (luck g (goal.at.returns-in-None g c).In_ok-turn q ops on ∙ ap (λ t. option_map (luck_in q.ops) (option_map (turn_in g.EF.Field.number) t)) c.in-None.is))
