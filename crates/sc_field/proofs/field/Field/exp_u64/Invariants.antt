use Rattle.std.proofs.Common.{◌≡◌}
use Rattle.sc_definitions.specs.Ring.{times, power}
use Rattle.sc_field.proofs.field.Field.exp_u64.Given as goal

abbrev pub invariant-loop-left : goal.invariant-loop-left
invariant-loop-left g l =
    let f = g.Self.Field in
    times f.ops (f.number l.result) (power f.ops (f.number l.base) l.left) ≡ power f.ops (f.number l.fn.self) l.fn.exponent

abbrev pub decreases-loop-left : goal.decreases-loop-left
decreases-loop-left g l = l.left
