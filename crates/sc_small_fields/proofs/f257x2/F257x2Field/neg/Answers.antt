use Rattle.std.proofs.Common.{sym, ◌∙◌}
use Rattle.sc_definitions.specs.Residues.{residues}
use Rattle.sc_small_fields.specs.F257Laws.{f257_field}
use Rattle.sc_small_fields.specs.QuadraticLaws.{same_pair, opposite-pair}
use Rattle.sc_small_fields.proofs.f257x2.F257x2Field.neg.Goals as goal

pub returns : goal.returns
returns c =
    let x = c.args.self in
    same_pair (residues 257) f257_field.ring c.neg.ensures c.neg-2.ensures
    ∙ sym (opposite-pair (residues 257) f257_field.ring 3 x.low.value x.high.value x.low.below x.high.below)
