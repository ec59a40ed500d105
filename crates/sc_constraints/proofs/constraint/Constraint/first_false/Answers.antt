use Rattle.std.proofs.Common.{◌∙◌}
use Rattle.sc_constraints.specs.Groups.{group_arity, group_statements}
use Rattle.sc_constraints.proofs.FalseGroups.{IsSearched-more, capped-found, capped-none, capped-exact}
use Rattle.sc_constraints.proofs.constraint.Constraint.first_false.Goals as goal

pub returns-in-Some-clause-found : goal.returns-in-Some-clause-found
returns-in-Some-clause-found g c =
    capped-found (group_statements (λ x. g.EF.Algebra.embedding (g.F.Field.number x)) g.EF.Field.number) group_arity _ _ _ c.deref-group-items.result.now _ c.loop-group.group-index c.loop-group.passed
    c.group-item.result _ c.in-Some.claim _ c.loop-group.invariant c.args.self.now.fits c.deref-group-items.ensures.value c.loop-group-test.true c.group-item.is
    c.first_false.ensures c.in-Some.is c.saturating_add.ensures

pub returns-in-Some-clause-exact : goal.returns-in-Some-clause-exact
returns-in-Some-clause-exact g c = λ few. returns-in-Some-clause-found g c ∙ capped-exact _ _ _ _ few

pub loop-group-preserved : goal.loop-group-preserved
loop-group-preserved g c =
    IsSearched-more (group_statements (λ x. g.EF.Algebra.embedding (g.F.Field.number x)) g.EF.Field.number) group_arity _ _ _ c.deref-group-items.result.now _ c.loop-group.group-index c.loop-group.passed
    c.group-item.result _ _ _ c.loop-group.invariant c.args.self.now.fits c.deref-group-items.ensures.value c.loop-group-test.true c.group-item.is
    c.first_false.ensures c.in_default.not-Some c.len.ensures c.saturating_add-passed.ensures

pub returns-clause-found : goal.returns-clause-found
returns-clause-found g c =
    capped-none (group_statements (λ x. g.EF.Algebra.embedding (g.F.Field.number x)) g.EF.Field.number) group_arity _ _ _ c.deref-group-items.result.now _ c.loop-group.group-index c.loop-group.passed
    c.loop-group.invariant c.deref-group-items.ensures.value c.loop-group-test.false

pub returns-clause-exact : goal.returns-clause-exact
returns-clause-exact g c = λ few. returns-clause-found g c ∙ capped-exact _ _ _ _ few
