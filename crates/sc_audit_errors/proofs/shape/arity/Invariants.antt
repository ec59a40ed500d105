use Rattle.std.proofs.Common.{◌≡◌, ◌-◌}
use Rattle.sc_audit_errors.specs.Arities.{arity_of, exponent_from}
use Rattle.sc_audit_errors.proofs.shape.arity.Given as goal

abbrev pub invariant-loop-n : goal.invariant-loop-n
invariant-loop-n l = arity_of l.len ≡ exponent_from l.n (25 - l.n) l.len
