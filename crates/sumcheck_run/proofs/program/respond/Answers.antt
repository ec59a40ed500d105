use Rattle.sumcheck_run.proofs.RunLaws.{responds_whole, responds_part, responds_nothing}
use Rattle.sumcheck_run.proofs.program.respond.Goals as goal

pub returns-in_default-clause-responds : goal.returns-in_default-clause-responds
returns-in_default-clause-responds g c = responds_nothing g.K.Sink.taken g.K.Sink.faults _ _

pub returns-in-Ok-write_all-clause-responds : goal.returns-in-Ok-write_all-clause-responds
returns-in-Ok-write_all-clause-responds g c =
    let wrote = c.in-Ok-write_all.ensures in
    responds_whole g.K.Sink.taken g.K.Sink.faults c.in-Ok.ensures c.outcome.ensures c.text.ensures c.code.ensures.code wrote.ok wrote.faults.0

pub returns-clause-responds : goal.returns-clause-responds
returns-clause-responds g c =
    let failed = c.in-Err.ensures in
    responds_part g.K.Sink.taken g.K.Sink.faults c.in-Ok.ensures c.text.ensures failed.err failed.faults.1
