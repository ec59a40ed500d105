use Rattle.std.proofs.Common.{◌+◌, ◌*◌, length}
use Rattle.sc_definitions.specs.Ring.{times}
use Rattle.sc_definitions.specs.Tables.{entries}
use Rattle.sc_field.proofs.ColumnLaws.{HaveGained}
use Rattle.sc_field.proofs.field.Field.add_columns.Given as goal

abbrev pub invariant-loop-a : goal.invariant-loop-a
invariant-loop-a g l =
    let f = g.Self.Field in
    record {
      rows : HaveGained f.number f.ops (λ c a. times f.ops (entries f.number l.rows (a * length l.fn.sums + c)) (entries f.number l.factors a))
          l.a l.fn.sums l.sums;
    }
