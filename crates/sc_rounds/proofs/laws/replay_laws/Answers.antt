use Rattle.std.proofs.Common.{refl}
use Rattle.sc_transcript.proofs.InStep.{has_replay, same_challenges, same_histories, same_claims, none_invalid}
use Rattle.sc_rounds.proofs.laws.replay_laws.Goals as goal

pub returns-clause-replay : goal.returns-clause-replay
returns-clause-replay g c = λ s before after rs empty played. has_replay s before after rs s.channel _ empty refl refl played

pub returns-clause-agree : goal.returns-clause-agree
returns-clause-agree g c = λ s before after rs empty played end out replays. (
  same_challenges s before after rs s.channel _ empty refl refl played end out replays,
  λ i. record {
    history = same_histories s before after rs s.channel _ empty refl refl played end out replays i;
    claim = same_claims s before after rs s.channel _ empty refl refl played end out replays i;
  },
)

pub returns-clause-none_invalid : goal.returns-clause-none_invalid
returns-clause-none_invalid g c = λ s before after rs empty played i end invalid. none_invalid s before after rs s.channel _ empty refl refl played i end invalid
