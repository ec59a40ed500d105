use Rattle.std.proofs.Common.{◌≡◌, ◌≤◌, length, map, take, vec_capacity}
use Rattle.sc_definitions.specs.Tables.{entries, value}
use Rattle.sc_openings.proofs.openings.true_openings.Given as goal

abbrev pub invariant-loop-i : goal.invariant-loop-i
invariant-loop-i g l =
    let e = g.EF.Field in
    record {
      made : length l.openings.items ≡ l.i;
      room : length l.tables ≤ vec_capacity l.openings;
      openings : map e.number l.openings.items
          ≡ take l.i (map (λ t. value e.ops (entries (λ x. g.EF.Algebra.embedding (g.F.Field.number x)) t.items) (map e.number l.point)) l.tables);
    }
