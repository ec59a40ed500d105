use Rattle.std.proofs.Common.{[]}
use Rattle.sumcheck_c.proofs.LineLaws.{make_kept}
use Rattle.sumcheck_c.proofs.tunaprow_make.Goals as goal

pub returns-in-Err-clause-promised : goal.returns-in-Err-clause-promised
returns-in-Err-clause-promised c = λ command named. make_kept c.args.variables c.args.number c.args.strategy.now command [] named
