use Rattle.sc_circuit_definitions.proofs.CircuitLaws.{certified-circuit, holds-built}
use Rattle.sc_circuit_definitions.proofs.laws.circuit_laws.Goals as goal

pub returns-clause-certified : goal.returns-clause-certified
returns-clause-certified c = certified-circuit

pub returns-clause-built : goal.returns-clause-built
returns-clause-built c = holds-built
