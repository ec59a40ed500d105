use Rattle.std.proofs.Common.{◌≡◌, map, vec_len, refl, ap, sym, ◌∙◌, rules}
use Rattle.std.proofs.lemmas.List.{length-map}
use Rattle.sc_definitions.specs.Channels.{channel, verifier_state}
use Rattle.sc_definitions.proofs.ReplayLaws.{length-given_rounds}
use Rattle.sc_transcript.specs.Shapes.{shape_of, batch_of}
use Rattle.sc_transcript.specs.Data.{wire_in, pair_replay}
use Rattle.sc_transcript.specs.Replayed.{Replay, AreCounted}
use Rattle.sc_transcript.proofs.PairLaws.{pairs_wide, came_counted, pairs_left}
use Rattle.sc_transcript.proofs.data.SumcheckData.verify_rounds.Goals as goal

-- as many rounds came as the shape has
pub replay-requires-clause-counted : goal.replay-requires-clause-counted
replay-requires-clause-counted g c =
    let right = rw (c.len.ensures, c.len-2.ensures) at c.in_ok-check_counts.ensures.ok in
    record {
      as_rounds = length-given_rounds _ _ ∙ length-map _ _ ∙ sym c.args.self.now.polynomial_evaluations.ok.0 ∙ right.as_rounds;
      as_witnesses = right.as_witnesses;
    }

-- one of them is rejected; each of them sends two values
pub returns-in_err-drawn-clause-left : goal.returns-in_err-drawn-clause-left
returns-in_err-drawn-clause-left g c =
    let B = g.F.Field.number in
    let N = g.EF.Field.number in
    let d = c.args.self.now in
    let shape = shape_of c.args.expected_rounds c.args.pow_bits c.args.basis in
    let p : Replay = pair_replay g.EF.Field.ops (channel (g.C.Challenger.party c.args.challenger.now).rules g.EF.ExtensionField.extension g.F.Field.ops.size c.args.pow_bits)
    g.EF.ExtensionField.DEGREE shape (wire_in B N d) (verifier_state (g.C.Challenger.party c.args.challenger.now).history (N c.args.claimed_sum.now)) in
    let batch : c.batch-batch.result ≡ batch_of shape = c.batch-batch.ensures ∙ ap batch_of c.new-shape.ensures in
    let counts : AreCounted (batch_of shape) (vec_len d.polynomial_evaluations) (vec_len d.pow_witnesses) =
    rw (batch, c.len.ensures, c.len-2.ensures) at c.in_ok-check_counts.ensures.ok in
    pairs_left _ (map N) p (rw (batch, c.in_ok-seed.ensures.rules, c.in_ok-seed.ensures.history, c.new-shape.ensures) refl) (λ i r is. pairs_wide N _ _ i r is) _ _ _
    (came_counted B N d (batch_of shape) counts) (search rules) c.in_err-drawn.ensures.leaves
