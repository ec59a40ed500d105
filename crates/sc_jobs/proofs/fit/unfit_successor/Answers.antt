use Rattle.std.proofs.Common.{◌≡◌, ◌+◌, ◌<◌, suc, true, false, length, drop, sym, ◌∙◌, ap, arith}
use Rattle.sc_statements.specs.NextStatements.{next_statements}
use Rattle.sc_audit_errors.specs.declared.error.AuditError.TheVariants.{StrategyUnfit}
use Rattle.sc_audit_errors.specs.declared.error.FitFault.TheVariants.{Selector}
use Rattle.std.proofs.Common.{Some}
use Rattle.sc_jobs.specs.Refusals.{first_unfit}
use Rattle.sc_jobs.proofs.UnfitLaws.{unfit-selector, unfit-no_selector, unfit-end}
use Rattle.sc_jobs.proofs.fit.unfit_successor.Goals as goal

pub loop-i-init : goal.loop-i-init
loop-i-init g c =
    let none : c.args.passed ≡ c.args.passed + 0 = omega arith in
    ap (λ k. first_unfit k (next_statements g.EF.Field.number c.args.statement.now)) none

-- it has no selector
pub loop-i-preserved : goal.loop-i-preserved
loop-i-preserved g c =
    let N = g.EF.Field.number in
    let ss = next_statements N c.args.statement.now in
    let p = c.args.passed in
    let i = c.loop-i.i in
    let low : i < length ss = omega (arith, c.loop-i-test.true, c.len-i-end.ensures) in
    let more : suc (p + i) ≡ p + (i + 1) = omega arith in
    let next : suc i ≡ i + 1 = omega arith in
    c.loop-i.invariant
    ∙ unfit-no_selector N (p + i) i c.args.statement.now.constraints.items low
    (λ some. let clash : true ≡ false = sym (c.has_selector.ensures.1 some) ∙ c.if-has_selector.false in cc)
    ∙ ap (λ k. first_unfit k (drop (suc i) ss)) more ∙ ap (λ k. first_unfit (p + (i + 1)) (drop k ss)) next

-- it has one
pub returns-then-has_selector : goal.returns-then-has_selector
returns-then-has_selector g c =
    let N = g.EF.Field.number in
    let ss = next_statements N c.args.statement.now in
    let low : c.loop-i.i < length ss = omega (arith, c.loop-i-test.true, c.len-i-end.ensures) in
    ap (λ n. Some (StrategyUnfit (Selector n))) c.saturating_add.ensures
    ∙ sym (c.loop-i.invariant ∙ unfit-selector N (c.args.passed + c.loop-i.i) c.loop-i.i c.args.statement.now.constraints.items low (c.has_selector.ensures.0 c.if-has_selector.true))

-- none has
pub returns : goal.returns
returns g c =
    let ss = next_statements g.EF.Field.number c.args.statement.now in
    sym (c.loop-i.invariant ∙ unfit-end (c.args.passed + c.loop-i.i) c.loop-i.i ss (omega (arith, c.loop-i-test.false, c.len-i-end.ensures)))
