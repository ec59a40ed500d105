use Rattle.std.proofs.Common.{◌+◌, ◌*◌, length}
use Rattle.sc_definitions.specs.Ring.{times}
use Rattle.sc_definitions.specs.Tables.{entries}
use Rattle.sc_field.proofs.ColumnLaws.{HaveGained}
use Rattle.sc_field.proofs.algebra.Algebra.add_columns_base.Given as goal

abbrev pub invariant-loop-a : goal.invariant-loop-a
invariant-loop-a g l =
    let f = g.Self.Field in
    let images = entries (λ x. g.Self.Algebra.embedding (g.B.Field.number x)) l.rows in
    record {
      rows : HaveGained f.number f.ops (λ c a. times f.ops (images (a * length l.fn.sums + c)) (entries f.number l.factors a)) l.a l.fn.sums l.sums;
    }
