use Rattle.std.proofs.Common.{map, ap, ◌∙◌, rules, arith}
use Rattle.sc_definitions.specs.Channels.{channel}
use Rattle.sc_transcript.specs.declared.rounds.BatchShape.{BatchShape}
use Rattle.sc_transcript.specs.Transcripts.{driver_in}
use Rattle.sc_transcript.proofs.ReplayedLaws.{same_channel}
use Rattle.sc_transcript.proofs.Lent.{returned}
use Rattle.sc_degree.specs.Provers.{Play, play_of}
use Rattle.sc_degree.specs.Plays.{Progress, playing}
use Rattle.sc_degree.proofs.PlayLaws.{all_played, stopped_at}
use Rattle.sc_degree.proofs.PlayedClaims.{play-leaves}
use Rattle.sc_degree.proofs.prover.play_batch.Goals as goal

-- all rounds are played after the seed and the claimed sum
pub returns-in-Ok-clause-left : goal.returns-in-Ok-clause-left
returns-in-Ok-clause-left g c =
    let N = g.EF.Field.number in
    let H = λ (x : g.row.C.Denot). (g.C.Challenger.party x).history in
    let R = λ (x : g.row.C.Denot). (g.C.Challenger.party x).rules in
    let begun = c.over-transcript.ensures in
    let told = c.in-Ok.ensures in
    let q : Play = play_of g.EF.Field.ops (channel (R c.args.challenger.now) g.EF.ExtensionField.extension g.F.Field.ops.size c.args.shape.pow_bits) c.args.shape (N c.args.claimed_sum) (H c.args.challenger.now) in
    let start : Progress = playing g.F.Field.number N (driver_in c.over-transcript.result) (g.P.RoundProver.meaning c.args.prover.now) c.in_ok-played.played in
    let same = same_channel g.F.Field.ops.size (ap R begun.lent.same ∙ c.in_ok-begin.ensures.rules) (ap (λ (s : BatchShape). s.pow_bits) begun.fresh.shape) in (
      told.rounds.0.claimed ∙ c.in_ok-played.ensures.claimed,
      all_played q start (ap H begun.lent.same ∙ c.in_ok-begin.ensures.history) same _ _ _ told.rounds.0
          (told.rounds.1 ∙ ap (λ (s : BatchShape). s.num_rounds) begun.fresh.shape) (ap (map N) c.new-in-Ok.ensures)
          (ap H (returned (search rules) told.continues.lender begun.lent.lender c.finish.ensures)),
    )

-- they leave the true claim of the true one
pub returns-in-Ok-clause-true_claim : goal.returns-in-Ok-clause-true_claim
returns-in-Ok-clause-true_claim g c = λ true_claim.
    let N = g.EF.Field.number in
    let before = g.P.RoundProver.meaning c.args.prover.now in
    let H = λ (x : g.row.C.Denot). (g.C.Challenger.party x).history in
    let R = λ (x : g.row.C.Denot). (g.C.Challenger.party x).rules in
    let q : Play = play_of g.EF.Field.ops (channel (R c.args.challenger.now) g.EF.ExtensionField.extension g.F.Field.ops.size c.args.shape.pow_bits) c.args.shape (N c.args.claimed_sum) (H c.args.challenger.now) in
    play-leaves q g.met.EF.Field.is_field before _ (g.met.P.RoundProver.tied c.args.prover.now) (omega (arith, c.requires.degree, c.requires.some))
    (omega (arith, c.requires.degree, c.requires.nodes)) _ _ _ (returns-in-Ok-clause-left g c).1 true_claim

-- some are, and the next one is refused
pub returns-in-Err-clause-left : goal.returns-in-Err-clause-left
returns-in-Err-clause-left g c =
    let N = g.EF.Field.number in
    let H = λ (x : g.row.C.Denot). (g.C.Challenger.party x).history in
    let R = λ (x : g.row.C.Denot). (g.C.Challenger.party x).rules in
    let begun = c.over-transcript.ensures in
    let told = c.in-Err.ensures in
    let q : Play = play_of g.EF.Field.ops (channel (R c.args.challenger.now) g.EF.ExtensionField.extension g.F.Field.ops.size c.args.shape.pow_bits) c.args.shape (N c.args.claimed_sum) (H c.args.challenger.now) in
    let start : Progress = playing g.F.Field.number N (driver_in c.over-transcript.result) (g.P.RoundProver.meaning c.args.prover.now) c.in_ok-played.played in
    let same = same_channel g.F.Field.ops.size (ap R begun.lent.same ∙ c.in_ok-begin.ensures.rules) (ap (λ (s : BatchShape). s.pow_bits) begun.fresh.shape) in
    stopped_at q start (ap H begun.lent.same ∙ c.in_ok-begin.ensures.history) g.F.Field.number N same (ap (λ (s : BatchShape). s.num_rounds) begun.fresh.shape) _ _ c.in-Err.error
    c.requires.variables told.rounds (ap H (returned (search rules) told.continues.lender begun.lent.lender c.abort.ensures))
