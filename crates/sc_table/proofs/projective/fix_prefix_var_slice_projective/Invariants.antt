use Rattle.std.proofs.Common.{◌≡◌, vec_capacity}
use Rattle.sc_definitions.specs.Tables.{entries, bound_coefficients}
use Rattle.sc_table.proofs.SliceLaws.{HasPushed}
use Rattle.sc_table.proofs.projective.fix_prefix_var_slice_projective.Given as goal

abbrev pub invariant-loop-b : goal.invariant-loop-b
invariant-loop-b g l =
    let a = g.A.Field in
    HasPushed a.number (bound_coefficients a.ops l.half (a.number l.r) (λ b. g.A.Algebra.embedding (entries g.B.Field.number l.coefficients b))) l.b l.bound.items
    × (vec_capacity l.bound ≡ l.half)
