use Rattle.std.proofs.Common.{Some, ap, ◌∙◌, rules}
use Rattle.sumcheck_replies.proofs.NumberLaws.{number_read}
use Rattle.sumcheck_replies.proofs.numbers.number_at.Goals as goal

pub returns-in-Some : goal.returns-in-Some
returns-in-Some g c =
    ap Some c.index.ensures ∙ number_read g.F.Field.number c.args.elements.now c.args.i c.in-Some.element.now (search rules) (search rules)
