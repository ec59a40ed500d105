use Rattle.std.proofs.Common.{map, take}
use Rattle.sc_definitions.specs.Polynomials.{AllZero}
use Rattle.sc_audit.proofs.verdict.is_zero.Given as goal

abbrev pub invariant-loop-coefficient : goal.invariant-loop-coefficient
invariant-loop-coefficient g l = AllZero g.EF.Field.ops (map g.EF.Field.number (take l.coefficient-index l.coefficients))
