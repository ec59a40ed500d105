use Rattle.std.proofs.Common.{◌≡◌, rules}
use Rattle.std.proofs.lemmas.Fmt.{parse-decimal}
use Rattle.sumcheck_run.proofs.command.read_decimal.Goals as goal

pub returns-else-eq : goal.returns-else-eq
returns-else-eq c = λ n low is.
    let read = parse-decimal 64 n _ _ low low is c.parse.ensures.value.0 in
    let text : c.format.result.now ≡ c.args.word.now = cc is in absurd (search rules)

pub returns-in-Err : goal.returns-in-Err
returns-in-Err c = λ n low is. absurd (cc (parse-decimal 64 n _ _ low low is c.parse.ensures.value.0))
