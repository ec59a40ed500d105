use Rattle.sumcheck_openings.proofs.OpeningsPromises.{openings-promised}
use Rattle.sumcheck_openings.proofs.report.judge_openings.Goals as goal

pub answer_named-requires-clause-challenger : goal.answer_named-requires-clause-challenger
answer_named-requires-clause-challenger c = c.requires.challenger

pub returns-clause-promised : goal.returns-clause-promised
returns-clause-promised c = openings-promised c.args.job c.requires
