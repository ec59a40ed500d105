use Rattle.sc_circuit_definitions.proofs.LayerTruthLaws.{layer-truth}
use Rattle.sc_circuit_definitions.proofs.LayerRoundLaws.{layer_rounds-are}
use Rattle.sc_circuit_definitions.proofs.LayerPhaseLaws.{phases-make_rounds}
use Rattle.sc_circuit_definitions.proofs.WalkLaws.{walks-make_phases}
use Rattle.sc_circuit_definitions.proofs.laws.layer_laws.Goals as goal

pub returns-clause-sums : goal.returns-clause-sums
returns-clause-sums c = layer-truth

pub returns-clause-rounds : goal.returns-clause-rounds
returns-clause-rounds c = layer_rounds-are

pub returns-clause-phases : goal.returns-clause-phases
returns-clause-phases c = phases-make_rounds

pub returns-clause-walks : goal.returns-clause-walks
returns-clause-walks c = walks-make_phases
