use Rattle.sc_audit.specs.SmallRounds.{strategy_by}
use Rattle.sc_audit.proofs.building.play.Goals as goal

-- the rounds that were built are replayed
pub returns-clause-answers : goal.returns-clause-answers
returns-clause-answers g c = c.replay.ensures.answers (strategy_by c.args.way) c.in_ok-built.ensures
