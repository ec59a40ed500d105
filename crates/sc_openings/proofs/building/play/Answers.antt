use Rattle.std.proofs.Common.{◌≡◌, ◌^◌, ◌++◌, ◌<◌, length, map, Err, refl, sym, ◌∙◌, ap, subst, arith}
use Rattle.std.specs.Prelude.{replicate}
use Rattle.std.proofs.lemmas.List.{length-map}
use Rattle.std.proofs.lemmas.List.Elements.{All-map}
use Rattle.sc_definitions.specs.declared.events.Event.TheVariants.{Draw}
use Rattle.sc_definitions.specs.Tables.{evaluation}
use Rattle.sc_definitions.specs.Events.{words, extension_draw}
use Rattle.sc_definitions.specs.Transcript.{sent}
use Rattle.sc_definitions.specs.Seeds.{quadratic_seed}
use Rattle.sc_definitions.specs.Channels.{channel}
use Rattle.sc_definitions.proofs.BuiltLaws.{length-challenges}
use Rattle.sc_merge_definitions.specs.Openings.{OpeningsCase, merging_challenge, after_merging}
use Rattle.sc_merged.specs.MergedPlays.{prover_state_in, seeded, ArePlayed, LeavesPlay}
use Rattle.sc_openings.specs.OpeningsJobs.{fields}
use Rattle.sc_openings.specs.OpeningsRounds.{rounds_start}
use Rattle.sc_openings.specs.FittingClaims.{claimed_by, case_by}
use Rattle.sc_openings.specs.OpeningsPlays.{AreBuilt, IsDrawnAt, LeavesBuilt}
use Rattle.sc_openings.proofs.ShapeLaws.{table-rows}
use Rattle.sc_openings.proofs.ReplayLaws.{openings-are}
use Rattle.sc_openings.proofs.BuildLaws.{built-played, built-refused, case-copied}
use Rattle.sc_openings.proofs.building.play.Goals as goal

-- the rounds were refused
pub returns-in-Err : goal.returns-in-Err
returns-in-Err g c =
    let fitting = c.args.fitting.now in
    let B = g.F.Field.number in
    let e = g.EF.Field in
    let N = e.number in
    let E = g.EF.ExtensionField.extension in
    let ring = g.met.EF.Field.is_field.ring in
    let copy = g.C.Challenger.party c.in_ok-at_challenge.at_challenge in
    let q : OpeningsCase = case_by fitting copy in
    let claimed = ap (map N) c.deref.ensures.value ∙ (c.requires.values copy).claimed in
    let at : IsDrawnAt N q c.in_ok-challenge.challenge (g.C.Challenger.party c.draw_challenge.new.challenger) =
    record {
      rules = c.in_ok-challenge.ensures.rules;
      challenge = c.in_ok-challenge.ensures.drawn ∙ ap (λ l. extension_draw copy.rules E (copy.history ++ sent E l)) claimed;
      history = c.in_ok-challenge.ensures.after ∙ ap (λ l. copy.history ++ sent E l ++ replicate E.degree Draw) claimed;
    } in
    let is = c.in_ok-tables.ensures.tables copy at.challenge in
    let before = prover_state_in B N c.in_ok-tables.tables c.new-rounds.result (g.C.Challenger.party c.in_ok-copied.copied).history in
    let after = prover_state_in B N c.play-played.new.self c.play-played.new.sumcheck_data (g.C.Challenger.party c.play-played.new.challenger).history in
    let start = seeded q.channel before in
    let rules = c.in_ok-copied.ensures.rules ∙ at.rules in
    let left = subst (λ R. LeavesPlay (map N) e.ops (channel R E g.F.Field.ops.size fitting.pow_bits) before after (Err c.in-Err.error)) rules c.in-Err.ensures.left in
    let history : start.history ≡ rounds_start q =
    ap (λ h. h ++ words (quadratic_seed E.degree evaluation fitting.pow_bits before.variables)) (c.in_ok-copied.ensures.history ∙ at.history)
    ∙ ap (λ k. after_merging q ++ words (quadratic_seed E.degree evaluation fitting.pow_bits k)) is.variables in
    let refused = built-refused q ring start after history is.variables is.rows c.new-rounds.ensures (All-map (λ n. n < g.F.Field.ops.size) B _ (λ j d low. g.met.F.Field.number_below _))
    B N g.C.Challenger.party (map N) before c.in-Err.error refl left in
    let same_case = case-copied (fields g.F.Field.ops e.ops g.EF.Algebra.embedding E) (claimed_by fitting) fitting.pow_bits _ copy c.in_ok-at_challenge.ensures in
    subst (λ k. LeavesBuilt B N g.C.Challenger.party k (Err c.refusal.result)) same_case
    (subst (λ x. LeavesBuilt B N g.C.Challenger.party q (Err x)) (sym c.refusal.ensures) refused)

-- there are as many challenges as variables
pub true_openings-requires : goal.true_openings-requires
true_openings-requires g c = λ k d low.
    let fitting = c.args.fitting.now in
    let played = c.in-Ok.ensures.left.0 in
    let drawn : length c.in-Ok.challenges ≡ length played.rounds =
    sym (length-map c.in-Ok.challenges g.EF.Field.number) ∙ ap length played.drawn ∙ length-challenges _ _ _ _ played.rounds in
    let count : length c.in-Ok.challenges ≡ fitting.num_variables = omega (arith, drawn, played.left, c.in-Ok.ensures.left.1, c.in_ok-tables.ensures.variables) in
    table-rows fitting k d low ∙ ap (λ n. 2 ^ n) (sym count)

-- the rounds and openings were built
pub returns : goal.returns
returns g c =
    let fitting = c.args.fitting.now in
    let B = g.F.Field.number in
    let e = g.EF.Field in
    let N = e.number in
    let E = g.EF.ExtensionField.extension in
    let emb = g.EF.Algebra.embedding in
    let ring = g.met.EF.Field.is_field.ring in
    let copy = g.C.Challenger.party c.in_ok-at_challenge.at_challenge in
    let q : OpeningsCase = case_by fitting copy in
    let claimed = ap (map N) c.deref.ensures.value ∙ (c.requires.values copy).claimed in
    let at : IsDrawnAt N q c.in_ok-challenge.challenge (g.C.Challenger.party c.draw_challenge.new.challenger) =
    record {
      rules = c.in_ok-challenge.ensures.rules;
      challenge = c.in_ok-challenge.ensures.drawn ∙ ap (λ l. extension_draw copy.rules E (copy.history ++ sent E l)) claimed;
      history = c.in_ok-challenge.ensures.after ∙ ap (λ l. copy.history ++ sent E l ++ replicate E.degree Draw) claimed;
    } in
    let is = c.in_ok-tables.ensures.tables copy at.challenge in
    let before = prover_state_in B N c.in_ok-tables.tables c.new-rounds.result (g.C.Challenger.party c.in_ok-copied.copied).history in
    let after = prover_state_in B N c.play-played.new.self c.play-played.new.sumcheck_data (g.C.Challenger.party c.play-played.new.challenger).history in
    let start = seeded q.channel before in
    let rs = map N c.in-Ok.challenges in
    let rules = c.in_ok-copied.ensures.rules ∙ at.rules in
    let played = subst (λ R. ArePlayed e.ops (channel R E g.F.Field.ops.size fitting.pow_bits) (seeded (channel R E g.F.Field.ops.size fitting.pow_bits) before) after rs) rules
    c.in-Ok.ensures.left.0 in
    let history : start.history ≡ rounds_start q =
    ap (λ h. h ++ words (quadratic_seed E.degree evaluation fitting.pow_bits before.variables)) (c.in_ok-copied.ensures.history ∙ at.history)
    ∙ ap (λ k. after_merging q ++ words (quadratic_seed E.degree evaluation fitting.pow_bits k)) is.variables in
    let values = c.in_ok-openings.ensures ∙ openings-are q (merging_challenge q) emb B g.met.EF.Algebra.embeds.zero_kept fitting.tables.now rs refl in
    let built = built-played q ring start after history is.variables is.rows c.new-rounds.ensures (All-map (λ n. n < g.F.Field.ops.size) B _ (λ j d low. g.met.F.Field.number_below _))
    rs (map N c.in_ok-openings.openings.items) played c.in-Ok.ensures.left.1 values in
    let same_case = case-copied (fields g.F.Field.ops e.ops emb E) (claimed_by fitting) fitting.pow_bits _ copy c.in_ok-at_challenge.ensures in (
      subst (λ k. IsDrawnAt N k c.in_ok-challenge.challenge (g.C.Challenger.party c.draw_challenge.new.challenger)) same_case at,
      subst (λ k. AreBuilt k (record { wire = after.wire; openings = map N c.in_ok-openings.openings.items })) same_case built,
    )
