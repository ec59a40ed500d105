use Rattle.std.proofs.Common.{sym, ◌∙◌}
use Rattle.sc_definitions.specs.Residues.{residues}
use Rattle.sc_small_fields.specs.F257Laws.{f257_field}
use Rattle.sc_small_fields.specs.QuadraticLaws.{same_pair, times-pairs}
use Rattle.sc_small_fields.proofs.PairLaws.{low_reduced, high_reduced}
use Rattle.sc_small_fields.proofs.f257x2.F257x2Field.mul.Goals as goal

pub returns : goal.returns
returns c =
    let x = c.args.self in let y = c.args.other in
    same_pair (residues 257) f257_field.ring
    (c.reduced.ensures ∙ low_reduced x.low.value x.high.value y.low.value y.high.value)
    (c.reduced-2.ensures ∙ high_reduced x.low.value x.high.value y.low.value y.high.value)
    ∙ sym (times-pairs (residues 257) f257_field.ring 3 x.low.value x.high.value y.low.value y.high.value x.low.below x.high.below y.low.below y.high.below)
