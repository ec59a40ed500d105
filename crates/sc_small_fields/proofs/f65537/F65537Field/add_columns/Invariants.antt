use Rattle.std.proofs.Common.{◌+◌, ◌*◌, length}
use Rattle.sc_definitions.specs.Ring.{times}
use Rattle.sc_definitions.specs.Residues.{residues}
use Rattle.sc_definitions.specs.Tables.{entries}
use Rattle.sc_field.proofs.ColumnLaws.{HaveGained}
use Rattle.sc_small_fields.proofs.f65537.F65537Field.add_columns.Given as goal

abbrev pub invariant-loop-a : goal.invariant-loop-a
invariant-loop-a l =
    record {
      rows : HaveGained (λ x. x.value) (residues 65537) (λ c a. times (residues 65537) (entries (λ x. x.value) l.rows (a * length l.fn.sums + c))
          (entries (λ x. x.value) l.factors a)) l.a l.fn.sums l.sums;
    }
