use Rattle.sc_small_fields.proofs.InverseLaws.{IsDescent}
use Rattle.sc_small_fields.proofs.prime.inverse_modulo.Given as goal

abbrev pub invariant-loop-rest : goal.invariant-loop-rest
invariant-loop-rest l = IsDescent l.modulus l.value l.factor l.rest

abbrev pub decreases-loop-rest : goal.decreases-loop-rest
decreases-loop-rest l = l.rest
