use Rattle.sumcheck_circuit.proofs.CircuitPromises.{circuit-promised}
use Rattle.sumcheck_circuit.proofs.report.judge_circuit.Goals as goal

pub answer_named-requires-clause-challenger : goal.answer_named-requires-clause-challenger
answer_named-requires-clause-challenger c = c.requires.challenger

pub returns-clause-promised : goal.returns-clause-promised
returns-clause-promised c = circuit-promised c.args.job c.requires
