use Rattle.sumcheck_audit.proofs.AuditLaws.{job-promised}
use Rattle.sumcheck_audit.proofs.report.judge_job.Goals as goal

pub answer_named-requires-clause-challenger : goal.answer_named-requires-clause-challenger
answer_named-requires-clause-challenger c = c.requires.stated.challenger

pub returns-clause-promised : goal.returns-clause-promised
returns-clause-promised c = job-promised c.args.job c.requires
