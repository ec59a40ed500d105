use Rattle.std.proofs.Common.{sym, ◌∙◌}
use Rattle.std.proofs.lemmas.List.{length-map}
use Rattle.sc_definitions.proofs.ReplayLaws.{length-given_rounds}
use Rattle.sc_zk_rounds.proofs.replayed.replay_begun.Goals as goal

-- as many rounds came as the shape has
pub replay-requires-clause-counted : goal.replay-requires-clause-counted
replay-requires-clause-counted g c =
    let counted = c.requires.came.counted in
    let same = c.batch-batch.ensures in
    rw same (record {
      as_rounds = length-given_rounds _ _ ∙ counted.as_rounds;
      as_witnesses = c.args.zk_data.now.pow_witnesses.ok.0 ∙ sym (length-map _ _) ∙ counted.as_witnesses;
    })
