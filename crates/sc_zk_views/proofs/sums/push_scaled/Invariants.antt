use Rattle.std.proofs.Common.{◌≡◌, ◌++◌, map, take}
use Rattle.sc_definitions.specs.Polynomials.{poly_scaled}
use Rattle.sc_zk_views.proofs.sums.push_scaled.Given as goal

abbrev pub invariant-loop-value : goal.invariant-loop-value
invariant-loop-value g l =
    map g.EF.Field.number l.list.items
    ≡ map g.EF.Field.number l.fn.list.items ++ poly_scaled g.EF.Field.ops (g.EF.Field.number l.factor) (map g.EF.Field.number (take l.value-index l.values))
