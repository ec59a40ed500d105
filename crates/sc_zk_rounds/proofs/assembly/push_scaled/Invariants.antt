use Rattle.std.proofs.Common.{◌≡◌, ◌++◌, map, take}
use Rattle.sc_definitions.specs.Polynomials.{poly_scaled}
use Rattle.sc_zk_rounds.proofs.assembly.push_scaled.Given as goal

abbrev pub invariant-loop-value : goal.invariant-loop-value
invariant-loop-value g l =
    map g.EF.Field.number l.wire.items
    ≡ map g.EF.Field.number l.fn.wire.items ++ poly_scaled g.EF.Field.ops (g.EF.Field.number l.factor) (map g.EF.Field.number (take l.value-index l.values))
