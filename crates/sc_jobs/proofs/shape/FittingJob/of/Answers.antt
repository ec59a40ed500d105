use Rattle.std.proofs.Common.{◌^◌, sym, ◌∙◌, ap, arith}
use Rattle.sc_audit_errors.proofs.ArityLaws.{arity-tells}
use Rattle.sc_jobs.proofs.shape.FittingJob.of.Goals as goal

pub invariant_of-result : goal.invariant_of-result
invariant_of-result g c =
    let told = arity-tells c.len-rows.result c.in-Some.n (sym c.arity.ensures ∙ c.in-Some.is) in
    let same = c.if-n-variables.false ∙ c.num_variables-variables.ensures in
    record { rows = sym c.len-rows.ensures ∙ told.0 ∙ ap (λ k. 2 ^ k) same; few = omega (arith, told.1, same); offered = c.is_offered.ensures.0 c.if-is_offered.true }
