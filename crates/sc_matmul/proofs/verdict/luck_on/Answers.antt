use Rattle.std.proofs.Common.{◌≡◌, ℕ, List, [], length, map, Some, None, sym, ◌∙◌, ap}
use Rattle.std.specs.Option.{option_map}
use Rattle.sc_definitions.specs.Polynomials.{poly_minus}
use Rattle.sc_definitions.specs.Roots.{root_count}
use Rattle.sc_definitions.specs.Lucky.{course_on, luck_in, first_turn, in_batch, in_round}
use Rattle.sc_definitions.proofs.ReplayLaws.{messages-given_rounds}
use Rattle.sc_challenger.specs.Parties.{Party}
use Rattle.sc_transcript.specs.Data.{pair_of, wire_in}
use Rattle.sc_rounds.specs.Turns.{turn_in}
use Rattle.sc_audit_errors.specs.Findings.{Finding, lucky, named}
use Rattle.sc_merge_definitions.specs.Matrices.{MatmulCase, matmul_tables, inner_variables, matmul_stage}
use Rattle.sc_merge_definitions.proofs.FindingLaws.{ok-then, luck-drawn, luck-round}
use Rattle.sc_matmul.specs.FittingClaims.{case_by}
use Rattle.sc_matmul.specs.MatmulPlays.{IsPlayedOn, played_luck}
use Rattle.sc_matmul.specs.MatmulRounds.{rounds_given}
use Rattle.sc_matmul.proofs.AuditLaws.{as-many}
use Rattle.sc_matmul.proofs.BuildLaws.{sum-pair}
use Rattle.sc_matmul.proofs.verdict.luck_on.Given.{Over}
use Rattle.sc_matmul.proofs.verdict.luck_on.Goals.{In_ok-turn}
use Rattle.sc_matmul.proofs.verdict.luck_on.Goals as goal

pub point_verdict-requires : goal.point_verdict-requires
point_verdict-requires g c = ap length c.as_slice.ensures ∙ as-many c.args.fitting.now c.args.product.now c.requires.product

-- the claim is true
pub returns-then-index : goal.returns-then-index
returns-then-index g c =
    let B = g.F.Field.number in
    let N = g.EF.Field.number in
    let o = g.EF.Field.ops in
    let emb = g.EF.Algebra.embedding in
    let ring = g.met.EF.Field.is_field.ring in
    let fitting = c.args.fitting.now in
    let P : List ℕ → List ℕ → Finding = λ xs ys. lucky (in_batch (poly_minus o (map emb xs) (map emb ys)) (root_count o (poly_minus o (map emb xs) (map emb ys)))) in
    ok-then c.point_verdict.result c.point_verdict.ensures (λ v told at on.
    let q : MatmulCase = case_by fitting at in
    let s = matmul_stage q (rounds_given (wire_in B N c.args.played.now.rounds)) in
    let same : s.claim ≡ s.truth = sym on.played.claim ∙ sym c.index.ensures ∙ c.if-index.true ∙ c.index-2.ensures ∙ c.dot_product.ensures ∙ sum-pair q ring N c.args.pair on.pair_is in
    told ∙ ap (λ l. P (map B l) (map B c.args.product.now)) c.as_slice.ensures ∙ ap (P (map B fitting.claimed.now.values.items)) c.requires.product
    ∙ sym (ap named (luck-drawn o s same)))

-- it is false: the first lucky challenge is that of the round that is found
luck : (g : Over) (c : In_ok-turn g) (at : Party) → let q = case_by c.args.fitting.now at in IsPlayedOn g.F.Field.number g.EF.Field.number q c.args.played.now c.args.pair →
    played_luck g.F.Field.number g.EF.Field.number q c.args.played.now ≡ option_map (luck_in q.ops) (option_map (turn_in g.EF.Field.number) c.in_ok-turn.field-0)
luck g c at on =
    let N = g.EF.Field.number in
    let o = g.EF.Field.ops in
    let ring = g.met.EF.Field.is_field.ring in
    let q : MatmulCase = case_by c.args.fitting.now at in
    let w = wire_in g.F.Field.number N c.args.played.now.rounds in
    let s = matmul_stage q (rounds_given w) in
    let k = course_on o (matmul_tables q) in
    let other : s.claim ≡ s.truth → ⊥ = λ e.
    c.if-index.false (c.index.ensures ∙ on.played.claim ∙ e ∙ sym (sum-pair q ring N c.args.pair on.pair_is) ∙ sym c.dot_product.ensures ∙ sym c.index-2.ensures) in
    luck-round o s other
    (c.in_ok-turn.ensures.found (matmul_tables q) (inner_variables q) on.pair_is
    ∙ ap (λ x. first_turn k 0 x (map (pair_of N) c.polynomial_evaluations-messages.result.now) [] (map N c.as_slice-challenges.result.now)) on.played.claim
    ∙ ap (λ l. first_turn k 0 s.claim (map (pair_of N) l) [] (map N c.as_slice-challenges.result.now)) c.polynomial_evaluations-messages.ensures
    ∙ ap (λ l. first_turn k 0 s.claim w.messages [] (map N l)) c.as_slice-challenges.ensures
    ∙ ap (λ ms. first_turn k 0 s.claim ms [] (map N c.args.played.now.challenges)) (sym (messages-given_rounds w.messages w.witnesses))
    ∙ ap (first_turn k 0 s.claim s.messages []) on.played.challenges)

-- a round made it true
pub returns-in-Some : goal.returns-in-Some
returns-in-Some g c = λ at on.
    let N = g.EF.Field.number in
    let o = g.EF.Field.ops in
    let turn = c.in-Some.turn in
    ap (λ n. lucky (in_round turn.round (map N turn.polynomial) n)) (c.count_roots-vanishing.ensures.count ∙ ap (λ l. root_count o (map N l)) c.as_slice-in-Some.ensures)
    ∙ sym (ap named (luck g (goal.at.returns-in-Some g c).In_ok-turn at on ∙ ap (λ t. option_map (luck_in o) (option_map (turn_in N) t)) c.in-Some.is))

-- none did
pub returns-in-None : goal.returns-in-None
returns-in-None g c = λ at on.
    sym
    (ap named
    (luck g (goal.at.returns-in-None g c).In_ok-turn at on ∙ ap (λ t. option_map (luck_in g.EF.Field.ops) (option_map (turn_in g.EF.Field.number) t)) c.in-None.is))
