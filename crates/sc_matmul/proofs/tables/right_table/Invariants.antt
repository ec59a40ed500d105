use Rattle.std.proofs.Common.{◌≡◌, ℕ, ◌*◌, ◌+◌, ◌<◌, ◌≤◌, length, vec_capacity}
use Rattle.sc_definitions.specs.Ring.{times, power}
use Rattle.sc_definitions.specs.Tables.{entries, sum_below}
use Rattle.sc_matmul.proofs.tables.right_table.Given as goal

abbrev pub invariant-loop-x : goal.invariant-loop-x
invariant-loop-x g l = record {
  made : length l.sums.items ≡ l.x;
  room : l.rows ≤ vec_capacity l.sums;
  sums : (x : ℕ) → x < l.x → entries g.EF.Field.number l.sums.items x
      ≡ sum_below g.EF.Field.ops l.cols (λ j. times g.EF.Field.ops (power g.EF.Field.ops (g.EF.Field.number l.fn.point) j)
      (entries (λ y. g.EF.Algebra.embedding (g.F.Field.number y)) l.rights (x * l.cols + j)));
}
