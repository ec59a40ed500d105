use Rattle.std.proofs.Common.{suc, ◌+◌, ◌-◌, refl, sym, ◌∙◌, ap, arith}
use Rattle.sc_audit_errors.specs.Arities.{arity_of, exponent_from}
use Rattle.sc_audit_errors.proofs.ArityLaws.{exponent-next, shifted}
use Rattle.sc_audit_errors.proofs.shape.arity.Goals as goal

pub loop-n-init : goal.loop-n-init
unfolding arity_of
loop-n-init c = refl

pub loop-n-preserved : goal.loop-n-preserved
loop-n-preserved c =
    c.loop-n.invariant
    ∙ exponent-next c.loop-n.n (24 - c.loop-n.n) (25 - c.loop-n.n) c.args.len (omega (arith, c.loop-n-test.true))
    (λ e. c.if-len-n.false (e ∙ sym (shifted c.loop-n.n c.loop-n-test.true)))
    ∙ ap (λ k. exponent_from (suc c.loop-n.n) k c.args.len) (omega (arith, c.loop-n-test.true))
    ∙ ap (λ k. exponent_from k (25 - (c.loop-n.n + 1)) c.args.len) (omega arith)
