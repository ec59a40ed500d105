use Rattle.std.proofs.Common.{◌≡◌, vec_capacity}
use Rattle.sc_definitions.specs.Tables.{entries, bound_low}
use Rattle.sc_table.proofs.SliceLaws.{HasPushed}
use Rattle.sc_table.proofs.slices.fix_suffix_var_slice.Given as goal

abbrev pub invariant-loop-b : goal.invariant-loop-b
invariant-loop-b g l =
    let a = g.A.Field in
    HasPushed a.number (bound_low a.ops (a.number l.r) (λ b. g.A.Algebra.embedding (entries g.B.Field.number l.evals b))) l.b l.values.items
    × (vec_capacity l.values ≡ l.half)
