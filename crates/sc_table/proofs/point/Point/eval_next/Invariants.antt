use Rattle.std.proofs.Common.{map}
use Rattle.sc_table.proofs.NextLaws.{IsPassed}
use Rattle.sc_table.proofs.point.Point.eval_next.Given as goal

abbrev pub invariant-loop-z_i : goal.invariant-loop-z_i
invariant-loop-z_i g l =
    let f = g.EF.Field in
    IsPassed f.ops (map f.number l.z) (map f.number l.x) (map f.number l.z_i-iterator.a.rest.now) (map f.number l.z_i-iterator.b.rest.now)
    (f.number l.equal) (f.number l.carry) (f.number l.done) (f.number l.omega)
