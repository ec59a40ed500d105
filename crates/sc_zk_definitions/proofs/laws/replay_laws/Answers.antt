use Rattle.sc_zk_definitions.proofs.GrownLaws.{runs_grow}
use Rattle.sc_zk_definitions.proofs.MaskedLaws.{runs_replay, simulations_replay}
use Rattle.sc_zk_definitions.proofs.laws.replay_laws.Goals as goal

pub returns-clause-grow : goal.returns-clause-grow
returns-clause-grow c = runs_grow

pub returns-clause-runs : goal.returns-clause-runs
returns-clause-runs c = runs_replay

pub returns-clause-simulations : goal.returns-clause-simulations
returns-clause-simulations c = simulations_replay
