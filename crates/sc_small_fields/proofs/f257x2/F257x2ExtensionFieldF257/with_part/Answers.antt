use Rattle.sc_small_fields.proofs.PairLaws.{first_replaced, second_replaced}
use Rattle.sc_small_fields.proofs.f257x2.F257x2ExtensionFieldF257.with_part.Goals as goal

pub returns-then-i-eq0 : goal.returns-then-i-eq0
returns-then-i-eq0 c =
    let y = c.args.self in let x = c.args.x in
    first_replaced y.low.value y.high.value c.args.i x.value y.low.below x.below c.if-i-eq0.true

pub returns-else-i-eq0 : goal.returns-else-i-eq0
returns-else-i-eq0 c =
    let y = c.args.self in let x = c.args.x in
    second_replaced y.low.value y.high.value c.args.i x.value y.low.below c.if-i-eq0.false c.requires
