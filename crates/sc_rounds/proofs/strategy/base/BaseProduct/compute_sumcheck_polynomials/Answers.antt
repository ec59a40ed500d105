use Rattle.std.proofs.Common.{map, ◌++◌, ap, sym, ◌∙◌, refl, inl, rules}
use Rattle.sc_definitions.specs.ProverStates.{ProverState}
use Rattle.sc_transcript.specs.Data.{wire_in}
use Rattle.sc_transcript.specs.declared.rounds.BatchShape.{BatchShape}
use Rattle.sc_transcript.specs.declared.transcript.SumcheckShape.{SumcheckShape}
use Rattle.sc_transcript.specs.declared.error.SumcheckError.TheVariants.{NoMemory}
use Rattle.sc_transcript.proofs.ReplayedLaws.{same_channel}
use Rattle.sc_transcript.proofs.Lent.{returned}
use Rattle.sc_definitions.specs.ProverViews.{prover_state_at}
use Rattle.sc_definitions.specs.Events.{words}
use Rattle.sc_transcript.specs.Shapes.{seed_of}
use Rattle.sc_transcript.specs.Batches.{BreaksOffAt}
use Rattle.sc_rounds.specs.HeldProducts.{shown_in}
use Rattle.sc_rounds.specs.BaseViews.{base_shown, base_batch_of}
use Rattle.sc_transcript.proofs.BatchLaws.{same_setting, played_at, sum_at}
use Rattle.sc_rounds.proofs.BaseLaws.{err_as, breaks_batch, whole_as, breaks_as}
use Rattle.sc_rounds.proofs.strategy.base.BaseProduct.compute_sumcheck_polynomials.Goals as goal

-- without memory for the challenges or the seed nothing has begun
pub returns-in_err-challenges-clause-refused : goal.returns-in_err-challenges-clause-refused
returns-in_err-challenges-clause-refused g c =
    let o = g.EF.Field.ops in
    let N = g.EF.Field.number in
    let H = λ (x : g.row.C.Denot). (g.C.Challenger.party x).history in
    let W = wire_in g.F.Field.number N in
    let self = c.args.self in
    err_as c.from_residual.result NoMemory (BreaksOffAt _ (H c.args.challenger.now) (W c.args.sumcheck_data.now)) c.from_residual.ensures.1
    (record { after = prover_state_at (base_shown self) (H c.args.challenger.now) (W c.args.sumcheck_data.now); history = refl; wire_is = refl; breaks = inl refl })

pub returns-in_err-seed-clause-refused : goal.returns-in_err-seed-clause-refused
returns-in_err-seed-clause-refused g c =
    let o = g.EF.Field.ops in
    let N = g.EF.Field.number in
    let H = λ (x : g.row.C.Denot). (g.C.Challenger.party x).history in
    let W = wire_in g.F.Field.number N in
    let self = c.args.self in
    err_as c.from_residual-in_err-seed.result NoMemory (BreaksOffAt _ (H c.seed.new.challenger) (W c.args.sumcheck_data.now)) c.from_residual-in_err-seed.ensures.1
    (record {
      after = prover_state_at (base_shown self) (H c.args.challenger.now) (W c.args.sumcheck_data.now);
      history = sym c.in_err-seed.ensures.history;
      wire_is = refl;
      breaks = inl refl;
    })

-- all rounds were played
pub returns-in-Ok-clause-whole : goal.returns-in-Ok-clause-whole
returns-in-Ok-clause-whole g c =
    let o = g.EF.Field.ops in
    let N = g.EF.Field.number in
    let H = λ (x : g.row.C.Denot). (g.C.Challenger.party x).history in
    let W = wire_in g.F.Field.number N in
    let self = c.args.self in
    let R = λ (x : g.row.C.Denot). (g.C.Challenger.party x).rules in
    let batch = base_batch_of self c.args.sumcheck_data.now (g.C.Challenger.party c.args.challenger.now) c.args.folding_factor c.args.pow_bits in
    let begun = c.over-transcript.ensures in
    let D = g.EF.ExtensionField.DEGREE in
    let seeded = ap (λ (s : SumcheckShape). H c.args.challenger.now ++ words (seed_of D s)) c.new-shape.ensures in
    let setting = same_setting (same_channel g.F.Field.ops.size (ap R begun.lent.same ∙ c.in_ok-seed.ensures.rules) (ap (λ (s : BatchShape). s.pow_bits) begun.fresh.shape ∙ ap (λ (s : SumcheckShape). s.pow_bits) c.new-shape.ensures)) refl refl in
    let start = ap (λ h. prover_state_at (base_shown self) h (W c.args.sumcheck_data.now)) (ap H begun.lent.same ∙ c.in_ok-seed.ensures.history ∙ seeded) in
    let all = c.in-Ok.ensures.played in
    whole_as batch refl
    (ap (λ h. prover_state_at (shown_in c.in-Ok.rounds) h (W c.play.new.sumcheck_data)) (sym (ap H (returned (search rules) c.in-Ok.ensures.continues.lender begun.lent.lender c.finish.ensures))))
    (ap (map N) (sym c.new.ensures))
    (record {
      whole = sum_at _ _ _ _ (sym (all.done ∙ ap (λ (s : BatchShape). s.num_rounds) (c.in-Ok.ensures.continues.shape ∙ begun.fresh.shape) ∙ ap (λ (s : SumcheckShape). s.num_rounds) c.new-shape.ensures)) all.left;
      played = played_at setting start refl refl all.played;
    })

-- they stopped
pub returns-in-Err-clause-refused : goal.returns-in-Err-clause-refused
returns-in-Err-clause-refused g c =
    let o = g.EF.Field.ops in
    let N = g.EF.Field.number in
    let H = λ (x : g.row.C.Denot). (g.C.Challenger.party x).history in
    let W = wire_in g.F.Field.number N in
    let self = c.args.self in
    let R = λ (x : g.row.C.Denot). (g.C.Challenger.party x).rules in
    let batch = base_batch_of self c.args.sumcheck_data.now (g.C.Challenger.party c.args.challenger.now) c.args.folding_factor c.args.pow_bits in
    let begun = c.over-transcript.ensures in
    let D = g.EF.ExtensionField.DEGREE in
    let seeded = ap (λ (s : SumcheckShape). H c.args.challenger.now ++ words (seed_of D s)) c.new-shape.ensures in
    let setting = same_setting (same_channel g.F.Field.ops.size (ap R begun.lent.same ∙ c.in_ok-seed.ensures.rules) (ap (λ (s : BatchShape). s.pow_bits) begun.fresh.shape ∙ ap (λ (s : SumcheckShape). s.pow_bits) c.new-shape.ensures)) refl refl in
    let start = ap (λ h. prover_state_at (base_shown self) h (W c.args.sumcheck_data.now)) (ap H begun.lent.same ∙ c.in_ok-seed.ensures.history ∙ seeded) in
    let stopped = c.in-Err.ensures.stopped in
    let size = ap (λ (s : BatchShape). s.num_rounds) (c.in-Err.ensures.continues.shape ∙ begun.fresh.shape) ∙ ap (λ (s : SumcheckShape). s.num_rounds) c.new-shape.ensures in
    breaks_as batch refl
    (sym (ap H (returned (search rules) c.in-Err.ensures.continues.lender begun.lent.lender c.abort.ensures)))
    (record {
      after = stopped.after;
      history = stopped.history;
      wire_is = stopped.wire_is;
      breaks = breaks_batch batch _ _ stopped.after _ _ c.in-Err.error setting start (stopped.left ∙ ap (λ (t : ProverState). t.variables) start) stopped.within stopped.some size stopped.stopped;
    })
