use Rattle.std.proofs.Common.{◌≡◌, ◌^◌, length, map, None, refl, sym, ◌∙◌, ap}
use Rattle.std.proofs.lemmas.List.{length-map}
use Rattle.sc_transcript.specs.Data.{pair_of}
use Rattle.sc_merge_definitions.specs.QuadraticPlays.{finding_where}
use Rattle.sc_merge_definitions.specs.Openings.{OpeningsCase, merging_challenge, weighted_tables, first_false_table_claim, values_at, weight_values_at}
use Rattle.sc_merged.specs.MergedViews.{pairs_in}
use Rattle.sc_openings.specs.OpeningsJobs.{CameOpenings, came_in}
use Rattle.sc_openings.specs.OpeningsRounds.{proof_fault}
use Rattle.sc_openings.specs.FittingClaims.{case_by}
use Rattle.sc_openings.specs.OpeningsPlays.{played_luck}
use Rattle.sc_openings.proofs.ShapeLaws.{table-rows}
use Rattle.sc_openings.proofs.ReplayLaws.{openings-counted, rounds-counted, weights-same, openings-are, match-is, counted-case, figures-are}
use Rattle.sc_openings.proofs.checking.report_on.Goals as goal

pub weights_at-requires : goal.weights_at-requires
weights_at-requires g c = c.requires.challenges ∙ sym c.in_ok-tables.ensures.variables

pub true_openings-requires : goal.true_openings-requires
true_openings-requires g c = λ k d low. table-rows c.args.fitting.now k d low ∙ ap (λ n. 2 ^ n) (sym c.requires.challenges)

pub do_match-matched-requires-clause-weighed : goal.do_match-matched-requires-clause-weighed
do_match-matched-requires-clause-weighed g c =
    let N = g.EF.Field.number in
    let fitting = c.args.fitting.now in
    let came = came_in g.F.Field.number N c.args.played.proof in
    ap length c.as_slice-shown.ensures.value ∙ sym (length-map c.args.played.proof.openings.items N)
    ∙ openings-counted (length fitting.tables.now) fitting.num_variables fitting.pow_bits came c.requires.counted
    ∙ sym
    (ap length c.deref.ensures.value ∙ sym (length-map c.in_ok-weights.weights.items N) ∙ ap length c.in_ok-weights.ensures
    ∙ length-map (pairs_in N c.in_ok-tables.tables) _ ∙ c.in_ok-tables.ensures.count)

pub do_match-matched-requires-clause-opened : goal.do_match-matched-requires-clause-opened
do_match-matched-requires-clause-opened g c =
    let N = g.EF.Field.number in
    let fitting = c.args.fitting.now in
    let came = came_in g.F.Field.number N c.args.played.proof in
    ap length c.as_slice-shown.ensures.value ∙ sym (length-map c.args.played.proof.openings.items N)
    ∙ openings-counted (length fitting.tables.now) fitting.num_variables fitting.pow_bits came c.requires.counted
    ∙ sym
    (ap length c.deref-2.ensures.value ∙ sym (length-map c.in_ok-openings.openings.items N) ∙ ap length c.in_ok-openings.ensures
    ∙ length-map fitting.tables.now _)

pub verdict_on-requires-clause-messages : goal.verdict_on-requires-clause-messages
verdict_on-requires-clause-messages g c =
    let N = g.EF.Field.number in
    let fitting = c.args.fitting.now in
    let came = came_in g.F.Field.number N c.args.played.proof in
    sym (length-map c.args.played.proof.rounds.polynomial_evaluations.items (pair_of N))
    ∙ (rounds-counted (length fitting.tables.now) fitting.num_variables fitting.pow_bits came c.requires.counted).0 ∙ sym c.in_ok-tables.ensures.variables

pub verdict_on-requires-clause-challenges : goal.verdict_on-requires-clause-challenges
verdict_on-requires-clause-challenges g c = c.requires.challenges ∙ sym c.in_ok-tables.ensures.variables

pub returns : goal.returns
returns g c = λ at played.
    let B = g.F.Field.number in
    let N = g.EF.Field.number in
    let o = g.EF.Field.ops in
    let emb = g.EF.Algebra.embedding in
    let fitting = c.args.fitting.now in
    let n = fitting.num_variables in
    let q : OpeningsCase = case_by fitting at in
    let came : CameOpenings = came_in B N c.args.played.proof in
    let rs = map N c.args.played.challenges in
    let tables = c.in_ok-tables.tables in
    let is = c.in_ok-tables.ensures.tables at played.challenge in
    let none : proof_fault (length q.tables) q.variables q.channel.bits came ≡ None = counted-case q came emb B fitting.tables.now refl c.requires.counted in
    let size : length rs ≡ n = length-map c.args.played.challenges N ∙ c.requires.challenges in
    let weights : map N c.in_ok-weights.weights.items ≡ weight_values_at o (weighted_tables q) rs =
    c.in_ok-weights.ensures ∙ weights-same o n (pairs_in N tables) (weighted_tables q) rs is.rows size in
    let openings : map N c.in_ok-openings.openings.items ≡ values_at o (weighted_tables q) rs =
    c.in_ok-openings.ensures ∙ openings-are q (merging_challenge q) emb B g.met.EF.Algebra.embeds.zero_kept fitting.tables.now rs refl in
    let matched = match-is q (N c.args.played.residual) came.openings rs (map N c.as_slice-shown.result.now) (map N c.deref.result.now) (map N c.deref-2.result.now) c.do_match-matched.result
    (ap (map N) c.as_slice-shown.ensures.value) (ap (map N) c.deref.ensures.value ∙ weights) (ap (map N) c.deref-2.ensures.value ∙ openings) c.do_match-matched.ensures in
    let found = c.in_ok-verdict.ensures q refl (c.requires.values at) (record { played = played; tables = is })
    ∙ ap (λ b. finding_where b (first_false_table_claim q 0 q.claims) (played_luck B N q c.args.played)) matched in
    figures-are q came none played.claim played.challenges played.residual (ap (map N) c.new.ensures ∙ weights) found
