use Rattle.std.proofs.Common.{◌≡◌, ◌<◌, map, Err, sym, ◌∙◌, ap, subst}
use Rattle.std.proofs.lemmas.List.Elements.{All-map}
use Rattle.sc_definitions.specs.Statements.{batched_by_powers}
use Rattle.sc_transcript.specs.Batches.{PlaysWhole, BreaksOff}
use Rattle.sc_transcript.specs.Data.{wire_in}
use Rattle.sc_rounds.specs.ProverViews.{prover_state_of}
use Rattle.sc_merge_definitions.specs.Matrices.{MatmulCase, IsMatmulCase, drawn_point, entries_claim, inner_variables, matmul_tables}
use Rattle.sc_rounds.specs.Turns.{IsPairOf}
use Rattle.sc_matmul.specs.declared.error.MatmulError.{MatmulError}
use Rattle.sc_matmul.specs.MatmulJobs.{fields}
use Rattle.sc_matmul.specs.FittingClaims.{case_by}
use Rattle.sc_matmul.specs.MatmulPlays.{refusal_by, AreBuilt, IsDrawnAt, LeavesBuilt}
use Rattle.sc_matmul.proofs.AuditLaws.{case-is}
use Rattle.sc_matmul.proofs.BuildLaws.{shown-pair, sum-pair, batch-is, built-played, built-refused, claim-true, case-copied, pair-made}
use Rattle.sc_matmul.proofs.building.play.Given.{Over}
use Rattle.sc_matmul.proofs.building.play.Goals.{After-new_unpacked-pair}
use Rattle.sc_matmul.proofs.building.play.Goals as goal

-- the case with the copy that drew the point
abbrev case : (g : Over) → After-new_unpacked-pair g → MatmulCase
case g c = case_by c.args.fitting.now (g.C.Challenger.party c.in_ok-at_point.at_point)

claim-is : (g : Over) (c : After-new_unpacked-pair g) → g.EF.Field.number c.claim_at-claim.result ≡ entries_claim (case g c)
claim-is g c =
    let emb = g.EF.Algebra.embedding in
    let B = g.F.Field.number in
    let q = case g c in
    c.claim_at-claim.ensures ∙ ap (λ x. batched_by_powers q.ops x 0 (map emb (map B c.as_slice.result.now))) c.in_ok-point.ensures.drawn
    ∙ ap (λ l. batched_by_powers q.ops (drawn_point q) 0 (map emb (map B l))) c.as_slice.ensures

pair-is : (g : Over) (c : After-new_unpacked-pair g) → IsPairOf g.EF.Field.number (matmul_tables (case g c)) (inner_variables (case g c)) c.new_unpacked-pair.result
pair-is g c =
    let copy = g.C.Challenger.party c.in_ok-at_point.at_point in
    let made = c.new_unpacked-pair.ensures in
    let drawn = c.in_ok-point.ensures.drawn in
    pair-made g.EF.Field.number (case g c) c.new_unpacked-pair.result c.in_ok-left.left c.in_ok-right.right c.in_ok-left.ensures.variables c.in_ok-right.ensures.variables made.variables made.basis
    made.order made.evals made.weights (c.in_ok-left.ensures.table copy drawn) (c.in_ok-right.ensures.table copy drawn)

-- the claim is the sum over the pair
pub new-prover-requires : goal.new-prover-requires
new-prover-requires g c =
    let at = (goal.at.new-prover-requires g c).After-new_unpacked-pair in
    let fitting = c.args.fitting.now in
    let q = case g at in
    let is : IsMatmulCase q =
    case-is g.F.Field.number (fields g.F.Field.ops g.EF.Field.ops g.EF.Algebra.embedding g.EF.ExtensionField.extension) g.met.F.Field.is_field g.met.EF.Field.is_field g.met.EF.Algebra.embeds
    g.met.F.Field.number_below fitting.left.now fitting.right.now fitting.claimed.now fitting.pow_bits (g.C.Challenger.party c.in_ok-at_point.at_point) fitting.fits in
    claim-is g at ∙ claim-true q is c.requires.all_true ∙ sym (sum-pair q g.met.EF.Field.is_field.ring g.EF.Field.number c.new_unpacked-pair.result (pair-is g at))

-- the rounds were built
pub returns-in-Ok : goal.returns-in-Ok
returns-in-Ok g c =
    let before = (goal.at.returns-in-Ok g c).After-new_unpacked-pair in
    let B = g.F.Field.number in
    let N = g.EF.Field.number in
    let ring = g.met.EF.Field.is_field.ring in
    let q = case g before in
    let drawn = c.in_ok-point.ensures in
    let after = prover_state_of c.compute_sumcheck_polynomials.new.self c.compute_sumcheck_polynomials.new.sumcheck_data
    (g.C.Challenger.party c.compute_sumcheck_polynomials.new.challenger).history in
    let same = batch-is q ring (c.in_ok-copied.ensures.rules ∙ drawn.rules) (c.in_ok-copied.ensures.history ∙ drawn.after)
    (c.new-prover.ensures.shown ∙ shown-pair q ring N c.new_unpacked-pair.result c.claim_at-claim.result (pair-is g before) (claim-is g before))
    c.new-rounds.ensures (sym g.met.EF.ExtensionField.degree_is) c.variables.ensures.number in
    let whole = subst (λ b. PlaysWhole b after (map N c.in-Ok._challenges)) same c.in-Ok.ensures.batch in
    let at : IsDrawnAt N q c.in_ok-point.point (g.C.Challenger.party c.draw_point.new.challenger) = record { rules = drawn.rules; point = drawn.drawn; history = drawn.after } in
    let built = built-played q ring after (map N c.in-Ok._challenges) (All-map (λ n. n < g.F.Field.ops.size) B _ (λ j d low. g.met.F.Field.number_below _)) whole in
    let same_case = case-copied c.args.fitting.now c.in_ok-at_point.ensures in (
      subst (λ k. IsDrawnAt N k c.in_ok-point.point (g.C.Challenger.party c.draw_point.new.challenger)) same_case at,
      subst (λ k. AreBuilt k (wire_in B N c.compute_sumcheck_polynomials.new.sumcheck_data)) same_case built,
    )

-- they were refused
pub returns-in-Err : goal.returns-in-Err
returns-in-Err g c =
    let before = (goal.at.returns-in-Err g c).After-new_unpacked-pair in
    let B = g.F.Field.number in
    let N = g.EF.Field.number in
    let ring = g.met.EF.Field.is_field.ring in
    let q = case g before in
    let after = prover_state_of c.compute_sumcheck_polynomials.new.self c.compute_sumcheck_polynomials.new.sumcheck_data
    (g.C.Challenger.party c.compute_sumcheck_polynomials.new.challenger).history in
    let same = batch-is q ring (c.in_ok-copied.ensures.rules ∙ c.in_ok-point.ensures.rules) (c.in_ok-copied.ensures.history ∙ c.in_ok-point.ensures.after)
    (c.new-prover.ensures.shown ∙ shown-pair q ring N c.new_unpacked-pair.result c.claim_at-claim.result (pair-is g before) (claim-is g before))
    c.new-rounds.ensures (sym g.met.EF.ExtensionField.degree_is) c.variables.ensures.number in
    let why = subst (λ b. BreaksOff b after c.in-Err.error) same c.in-Err.ensures.batch in
    let L : MatmulCase → MatmulError → Type 0 = λ k x. LeavesBuilt {F = g.row.F.Denot} {EF = g.row.EF.Denot} B N g.C.Challenger.party k (Err x) in
    subst (L (case_by c.args.fitting.now (g.C.Challenger.party c.args.challenger.now))) (sym c.refusal.ensures)
    (subst (λ k. L k (refusal_by c.in-Err.error)) (case-copied c.args.fitting.now c.in_ok-at_point.ensures)
    (built-refused q ring B N g.C.Challenger.party after c.in-Err.error (All-map (λ n. n < g.F.Field.ops.size) B _ (λ j d low. g.met.F.Field.number_below _)) why))
