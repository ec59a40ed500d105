use Rattle.std.proofs.Common.{sym, ◌∙◌}
use Rattle.sc_definitions.specs.Residues.{residues}
use Rattle.sc_small_fields.specs.F257Laws.{f257_field}
use Rattle.sc_small_fields.specs.QuadraticLaws.{same_pair, times-pair_first}
use Rattle.sc_small_fields.proofs.f257x2.F257x2AlgebraF257.mul_base.Goals as goal

pub returns : goal.returns
returns c =
    let x = c.args.self in let b = c.args.b in
    same_pair (residues 257) f257_field.ring c.mul.ensures c.mul-2.ensures
    ∙ sym (times-pair_first (residues 257) f257_field.ring 3 x.low.value x.high.value b.value x.low.below x.high.below b.below)
