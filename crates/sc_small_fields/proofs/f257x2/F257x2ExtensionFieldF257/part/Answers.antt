use Rattle.sc_small_fields.proofs.PairLaws.{first_part, second_part}
use Rattle.sc_small_fields.proofs.f257x2.F257x2ExtensionFieldF257.part.Goals as goal

pub returns-then-i-eq0 : goal.returns-then-i-eq0
returns-then-i-eq0 c =
    let x = c.args.self in
    first_part x.low.value x.high.value c.args.i x.low.below c.if-i-eq0.true

pub returns-else-i-eq0 : goal.returns-else-i-eq0
returns-else-i-eq0 c =
    let x = c.args.self in
    second_part x.low.value x.high.value c.args.i x.low.below c.if-i-eq0.false c.requires
