use Rattle.std.proofs.Common.{◌≡◌, ◌^◌, length, vec_capacity}
use Rattle.sc_table.proofs.WeightLaws.{IsWeighted}
use Rattle.sc_table.proofs.poly.Poly.new_from_point.Given as goal

abbrev pub invariant-loop-z_i : goal.invariant-loop-z_i
invariant-loop-z_i g l = record {
  can_next : (goal.iterator-loop-z_i g).can_next l.z_i-iterator;
  ends : (goal.iterator-loop-z_i g).is_finite l.z_i-iterator;
  weighted : IsWeighted g.A.Field.number g.A.Field.ops (g.A.Field.number l.fn.scale) l.z l.z_i-iterator.iter.rest.now l.evals.items;
  room : vec_capacity l.evals ≡ 2 ^ length l.z;
}
