use Rattle.sumcheck_c.proofs.LineLaws.{word_kept}
use Rattle.sumcheck_c.proofs.tunaprow_reply.Goals as goal

pub returns-in-Err-clause-promised : goal.returns-in-Err-clause-promised
returns-in-Err-clause-promised c = λ command named. word_kept c.args.word.now command c.args.job.now named
