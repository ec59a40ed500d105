use Rattle.sumcheck_c.proofs.LineLaws.{make_of_no_text}
use Rattle.sumcheck_c.proofs.line.of_make.Goals as goal

-- the strategy is no text
pub returns-in_default : goal.returns-in_default
returns-in_default c = rw c.new.ensures.items (make_of_no_text c.args.variables c.args.number c.args.strategy.now c.in_default.ensures.cases.0)
