use Rattle.std.proofs.Common.{◌≡◌, ◌≤◌, take, map, vec_len, vec_capacity}
use Rattle.sc_degree.specs.Nodes.{extended}
use Rattle.sc_degree.proofs.util.RoundPolyInterpolator.extend_evals.Given as goal

abbrev pub invariant-loop-value : goal.invariant-loop-value
invariant-loop-value g l = record {
  so_far : l.values.items ≡ take l.value-index l.evals;
  size : vec_len l.values ≡ l.value-index;
  room : l.target_len ≤ vec_capacity l.values;
}

abbrev pub invariant-loop-index : goal.invariant-loop-index
invariant-loop-index g l =
    let e = g.EF.Field in
    record {
      so_far : map e.number l.values.items ≡ extended e.ops (e.number l.sum_constraint) (map e.number l.evals) l.index;
      size : vec_len l.values ≡ l.index;
      room : l.target_len ≤ vec_capacity l.values;
    }
