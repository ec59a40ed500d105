use Rattle.std.proofs.Common.{◌≡◌, ◌+◌, ◌<◌, [], ◌∷◌, length, map, refl, ap, sym, ◌∙◌, arith}
use Rattle.std.proofs.lemmas.List.{length-map, map-append}
use Rattle.sc_definitions.specs.Channels.{verifier_state}
use Rattle.sc_definitions.specs.Rounds.{next_claim}
use Rattle.sc_definitions.proofs.ProverStateLaws.{length-entries_of}
use Rattle.sc_transcript.specs.Data.{wire_in}
use Rattle.sc_transcript.specs.Drivers.{channel_of}
use Rattle.sc_transcript.specs.Transcripts.{driver_in}
use Rattle.sc_transcript.specs.declared.rounds.BatchShape.{BatchShape}
use Rattle.sc_transcript.specs.declared.error.SumcheckError.TheVariants.{NoMemory}
use Rattle.sc_transcript.proofs.ReplayedLaws.{same_channel}
use Rattle.sc_transcript.proofs.BatchLaws.{fits}
use Rattle.sc_svo.specs.Batches.{batch_in, honest_of}
use Rattle.sc_svo.specs.Grids.{grid_shown, grids_shown}
use Rattle.sc_audit.specs.SmallRounds.{setting_for, begun_for}
use Rattle.sc_audit.proofs.DrawnLaws.{values_offered, no_items, read_message, drawn_begun, drawn_more, drawn_refused, drawn_wants, leaves_stopped}
use Rattle.sc_audit.proofs.small_value.play_small.Goals as goal

pub loop-round-init : goal.loop-round-init
loop-round-init g c =
    let N = g.EF.Field.number in
    let o = g.EF.Field.ops in
    record {
      continues = record { lender = refl; rules = refl; shape = refl; kind = refl };
      played = c.requires.fresh.played;
      len = c.args.challenges.now.ok.0 ∙ c.requires.fresh.count;
      room = c.requires.fresh.fits;
      drawn = λ p of is. drawn_begun (setting_for g.EF.ExtensionField.extension o p c.args.transcript.now) g.met.EF.Field.is_field.ring (values_offered o p (batch_in c.args.batch.now) of) (begun_for N o p c.args.transcript.now c.args.sumcheck_data.now)
          (record { evals = length-entries_of p.variables _; weights = length-entries_of p.variables _ }) _ _ is (no_items N c.args.challenges.now.items c.requires.fresh.count);
    }

-- there is no memory for a message
pub returns-in_err-message-clause-drawn : goal.returns-in_err-message-clause-drawn
returns-in_err-message-clause-drawn g c = λ p of is.
    let N = g.EF.Field.number in
    let o = g.EF.Field.ops in
    let inv = c.loop-round.invariant in
    let d = driver_in c.loop-round.transcript in
    let rs = map N c.loop-round.challenges.items in
    let s = setting_for g.EF.ExtensionField.extension o p c.args.transcript.now in
    let t = begun_for N o p c.args.transcript.now c.args.sumcheck_data.now in
    let count : length rs ≡ c.loop-round._round = length-map c.loop-round.challenges.items N ∙ sym c.loop-round.challenges.ok.0 ∙ inv.len in
    let low : length rs < length (grids_shown N c.args.batch.now.grids) =
    omega (arith, count, c.loop-round-test.true, c.len-round-end.ensures, length-map c.grids.result.now.rounds (grid_shown N), ap length c.grids.ensures) in
    leaves_stopped s t rs (N c.loop-round.sum) d (wire_in g.F.Field.number N c.loop-round.sumcheck_data) c.from_residual.result NoMemory c.from_residual.ensures.1
    (drawn_wants s g.met.EF.Field.is_field.ring (values_offered o p (batch_in c.args.batch.now) of) t rs d (N c.loop-round.sum) _ (inv.drawn p of is) (omega (arith, low, of.within)) (inv.played ∙ sym count)
    (omega (arith, inv.played, count, low, c.requires.within, ap (λ (k : BatchShape). k.num_rounds) inv.continues.shape)))

-- a round is refused
pub returns-in_err-r-clause-drawn : goal.returns-in_err-r-clause-drawn
returns-in_err-r-clause-drawn g c = λ p of is.
    let N = g.EF.Field.number in
    let o = g.EF.Field.ops in
    let ring = g.met.EF.Field.is_field.ring in
    let inv = c.loop-round.invariant in
    let d = driver_in c.loop-round.transcript in
    let d' = driver_in c.observe_and_sample.new.transcript in
    let on = wire_in g.F.Field.number N c.loop-round.sumcheck_data in
    let rs = map N c.loop-round.challenges.items in
    let s = setting_for g.EF.ExtensionField.extension o p c.args.transcript.now in
    let t = begun_for N o p c.args.transcript.now c.args.sumcheck_data.now in
    let count : length rs ≡ c.loop-round._round = length-map c.loop-round.challenges.items N ∙ sym c.loop-round.challenges.ok.0 ∙ inv.len in
    let low : length rs < length (grids_shown N c.args.batch.now.grids) =
    omega (arith, count, c.loop-round-test.true, c.len-round-end.ensures, length-map c.grids.result.now.rounds (grid_shown N), ap length c.grids.ensures) in
    let values = N c.in_ok-message.message.c_a ∷ N c.in_ok-message.message.c_inf ∷ [] in
    let played = inv.drawn p of is in
    let message = read_message o ring p (batch_in c.args.batch.now) of s.channel t.history t.wire rs (verifier_state d.history (N c.loop-round.sum)) on values low played
    (c.in_ok-message.ensures.honest p.table of.grids ∙ ap (λ xs. honest_of o (batch_in c.args.batch.now) p.table (map N xs)) c.as_slice.ensures.value) in
    let refused = c.in_err-r.ensures.refused in
    let size = ap (λ (k : BatchShape). k.num_rounds) (refused.continues.shape ∙ inv.continues.shape) in
    leaves_stopped s t rs (N c.loop-round.sum) d' (wire_in g.F.Field.number N c.observe_and_sample.new.self) c.from_residual-in_err-r.result _ c.from_residual-in_err-r.ensures.1
    (drawn_refused s ring (values_offered o p (batch_in c.args.batch.now) of) t rs (verifier_state d.history (N c.loop-round.sum)) on played (omega (arith, low, of.within)) values message (channel_of g.EF.ExtensionField.extension d)
    (same_channel g.F.Field.ops.size inv.continues.rules (ap (λ (k : BatchShape). k.pow_bits) inv.continues.shape)) d' _ d.played _ refused.why c.in_err-r.ensures.kept
    (inv.played ∙ sym count) refused.played (omega (arith, refused.played, inv.played, count, low, c.requires.within, size)))

-- one is played
pub loop-round-preserved : goal.loop-round-preserved
loop-round-preserved g c =
    let N = g.EF.Field.number in
    let o = g.EF.Field.ops in
    let ring = g.met.EF.Field.is_field.ring in
    let inv = c.loop-round.invariant in
    let round = c.in_ok-r.ensures in
    let d = driver_in c.loop-round.transcript in
    let on = wire_in g.F.Field.number N c.loop-round.sumcheck_data in
    let rs = map N c.loop-round.challenges.items in
    let count : length rs ≡ c.loop-round._round = length-map c.loop-round.challenges.items N ∙ sym c.loop-round.challenges.ok.0 ∙ inv.len in
    let low : length rs < length (grids_shown N c.args.batch.now.grids) =
    omega (arith, count, c.loop-round-test.true, c.len-round-end.ensures, length-map c.grids.result.now.rounds (grid_shown N), ap length c.grids.ensures) in
    let values = N c.in_ok-message.message.c_a ∷ N c.in_ok-message.message.c_inf ∷ [] in
    record {
      continues = record {
        lender = round.puts.plays.continues.lender ∙ inv.continues.lender;
        rules = round.puts.plays.continues.rules ∙ inv.continues.rules;
        shape = round.puts.plays.continues.shape ∙ inv.continues.shape;
        kind = round.puts.plays.continues.kind ∙ inv.continues.kind;
      };
      played = round.puts.plays.played ∙ ap (λ n. n + 1) inv.played;
      len = c.push_reserved.ensures.len ∙ ap (λ n. n + 1) inv.len;
      room = fits _ _ _ _ (ap (λ (s : BatchShape). s.num_rounds) round.puts.plays.continues.shape) c.push_reserved.ensures.capacity inv.room;
      drawn = λ p of is.
          let s = setting_for g.EF.ExtensionField.extension o p c.args.transcript.now in
          let t = begun_for N o p c.args.transcript.now c.args.sumcheck_data.now in
          let played = inv.drawn p of is in
          let message = read_message o ring p (batch_in c.args.batch.now) of s.channel t.history t.wire rs (verifier_state d.history (N c.loop-round.sum)) on values low played
          (c.in_ok-message.ensures.honest p.table of.grids ∙ ap (λ xs. honest_of o (batch_in c.args.batch.now) p.table (map N xs)) c.as_slice.ensures.value) in
          drawn_more s ring (values_offered o p (batch_in c.args.batch.now) of) t rs (verifier_state d.history (N c.loop-round.sum)) on played (omega (arith, low, of.within)) values message (channel_of g.EF.ExtensionField.extension d)
          (same_channel g.F.Field.ops.size inv.continues.rules (ap (λ (k : BatchShape). k.pow_bits) inv.continues.shape)) round.puts.witness (N c.in_ok-r.r) _ _ _ _
          (ap (map N) c.push_reserved.ensures.items ∙ map-append N _ _) round.puts.plays.sent round.puts.wire
          (c.reduce_claim.ensures.claim ∙ ap (λ k. next_claim k o (N c.loop-round.sum) values (N c.in_ok-r.r)) (sym of.basis));
    }
