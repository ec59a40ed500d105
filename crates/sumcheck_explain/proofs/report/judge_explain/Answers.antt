use Rattle.sumcheck_explain.proofs.ExplainPromises.{explain-promised}
use Rattle.sumcheck_explain.proofs.report.judge_explain.Goals as goal

pub returns-clause-promised : goal.returns-clause-promised
returns-clause-promised c = explain-promised c.args.job c.requires
