use Rattle.sc_constraints.specs.Groups.{group_statements}
use Rattle.sc_jobs.proofs.UnfitLaws.{none_from_default, passed_found, passed_more, passed_all}
use Rattle.sc_jobs.proofs.fit.unfit_statement.Goals as goal

-- the group at a place has the first
pub returns-in-Some : goal.returns-in-Some
returns-in-Some g c =
    let of = λ (x : g.row.F.Denot). g.EF.Algebra.embedding (g.F.Field.number x) in
    passed_found (group_statements of g.EF.Field.number) c.statements-group-items.result.now _ c.loop-group.group-index c.loop-group.passed c.group-item.result
    c.unfit_of_group.result c.in-Some.error c.loop-group.invariant c.statements-group-items.ensures.groups c.loop-group-test.true c.group-item.is c.unfit_of_group.ensures c.in-Some.is

-- it has none
pub loop-group-preserved : goal.loop-group-preserved
loop-group-preserved g c =
    let of = λ (x : g.row.F.Denot). g.EF.Algebra.embedding (g.F.Field.number x) in
    passed_more (group_statements of g.EF.Field.number) c.statements-group-items.result.now c.statements-group-items.result.now c.loop-group.group-index c.loop-group.passed
    c.len.result _ c.group-item.result c.unfit_of_group.result c.loop-group.invariant c.loop-group-test.true c.group-item.is c.unfit_of_group.ensures
    (none_from_default _ c.in_default.not-Some) c.len.ensures c.saturating_add-passed.ensures

-- no group has one
pub returns : goal.returns
returns g c =
    let of = λ (x : g.row.F.Denot). g.EF.Algebra.embedding (g.F.Field.number x) in
    passed_all (group_statements of g.EF.Field.number) c.statements-group-items.result.now _ c.loop-group.group-index c.loop-group.passed c.loop-group.invariant
    c.statements-group-items.ensures.groups c.loop-group-test.false
