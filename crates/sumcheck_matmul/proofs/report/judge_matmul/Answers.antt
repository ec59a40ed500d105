use Rattle.sumcheck_matmul.proofs.MatmulPromises.{matmul-promised}
use Rattle.sumcheck_matmul.proofs.report.judge_matmul.Goals as goal

pub answer_named-requires-clause-challenger : goal.answer_named-requires-clause-challenger
answer_named-requires-clause-challenger c = c.requires.challenger

pub returns-clause-promised : goal.returns-clause-promised
returns-clause-promised c = matmul-promised c.args.job c.requires
