use Rattle.std.proofs.Common.{◌+◌, ◌*◌}
use Rattle.sc_definitions.specs.Tables.{entries}
use Rattle.sc_small_fields.proofs.TotalLaws.{AreTotals}
use Rattle.sc_small_fields.proofs.f65537.column_totals.Given as goal

abbrev pub invariant-loop-a : goal.invariant-loop-a
invariant-loop-a l =
    record {
      totals : AreTotals l.len (λ c a. entries (λ x. x.value) l.rows (a * l.width + (l.from + c))) (entries (λ x. x.value) l.factors) l.a l.totals;
    }
