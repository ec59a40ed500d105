use Rattle.std.proofs.Common.{sym, ◌∙◌, arith}
use Rattle.sumcheck_run.proofs.WordLaws.{written-is, written-none, written-past}
use Rattle.sumcheck_run.proofs.command.read_number.Goals as goal

pub returns-in_err-number : goal.returns-in_err-number
returns-in_err-number c = c.from_residual.ensures ∙ sym (written-none c.args.bound c.args.word.now (λ n low. c.in_err-number.ensures n (omega arith)))

pub returns-then-number-bound : goal.returns-then-number-bound
returns-then-number-bound c = sym (written-is c.args.bound c.in_ok-number.number c.args.word.now (omega arith) (omega arith) c.in_ok-number.ensures)

pub returns-else-number-bound : goal.returns-else-number-bound
returns-else-number-bound c = sym (written-past c.args.bound c.in_ok-number.number c.args.word.now (omega arith) (omega arith) c.in_ok-number.ensures)
