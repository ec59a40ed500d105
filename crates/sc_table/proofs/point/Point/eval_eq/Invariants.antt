use Rattle.std.proofs.Common.{◌≡◌, map}
use Rattle.sc_definitions.specs.Ring.{times}
use Rattle.sc_definitions.specs.Tables.{eq_product}
use Rattle.sc_table.proofs.point.Point.eval_eq.Given as goal

abbrev pub invariant-loop-z_i : goal.invariant-loop-z_i
invariant-loop-z_i g l =
    let f = g.EF.Field in
    times f.ops (f.number l.product) (eq_product f.ops (map f.number l.z_i-iterator.a.rest.now) (map f.number l.z_i-iterator.b.rest.now))
    ≡ eq_product f.ops (map f.number l.z) (map f.number l.x)
