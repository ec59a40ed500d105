use Rattle.std.proofs.Common.{◌≡◌, ◌++◌, map, take}
use Rattle.sc_commitments.specs.Matrices.{lists_in}
use Rattle.sc_commitments.specs.Codes.{values_at}
use Rattle.sc_commitments.proofs.node_code.push_values.Given as goal

abbrev pub invariant-loop-coefficients : goal.invariant-loop-coefficients
invariant-loop-coefficients g l =
    map g.EF.Field.number l.values.items
    ≡ map g.EF.Field.number l.fn.values.items ++ values_at g.EF.Field.ops (lists_in g.EF.Field.number (take l.coefficients-index l.polynomials)) (g.EF.Field.number l.node)
