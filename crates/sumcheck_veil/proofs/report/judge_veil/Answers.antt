use Rattle.sumcheck_veil.proofs.VeilPromises.{veil-promised}
use Rattle.sumcheck_veil.proofs.report.judge_veil.Goals as goal

pub returns-clause-promised : goal.returns-clause-promised
returns-clause-promised c = veil-promised c.args.job
