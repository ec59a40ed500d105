use Rattle.std.proofs.Common.{◌≡◌, ◌≤◌, length, map, take, vec_len, vec_capacity}
use Rattle.sc_definitions.specs.Tables.{value}
use Rattle.sc_merged.specs.WeightedPolys.{weights_in}
use Rattle.sc_merged.proofs.tables.MergedTables.weights_at.Given as goal

abbrev pub invariant-loop-i : goal.invariant-loop-i
invariant-loop-i g l =
    let e = g.EF.Field in
    record {
      made : length l.values.items ≡ l.i;
      room : vec_len l.self.pairs ≤ vec_capacity l.values;
      values : map e.number l.values.items ≡ take l.i (map (λ p. value e.ops (weights_in e.number p) (map e.number l.fn.point)) l.self.pairs.items);
    }
