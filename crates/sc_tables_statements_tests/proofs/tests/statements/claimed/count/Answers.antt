use Rattle.std.proofs.Common.{◌≡◌, ◌+◌, ◌<◌, length, take, subst, ◌∙◌, ap, arith}
use Rattle.std.specs.Prelude.{SomeIff}
use Rattle.std.proofs.lemmas.List.{length-append, take_all}
use Rattle.sc_constraints.specs.Groups.{group_statements, all_statements}
use Rattle.sc_constraints.proofs.GroupSteps.{groups-more}
use Rattle.sc_tables_statements_tests.proofs.tests.statements.claimed.count.Goals as goal

-- one group more is counted
pub loop-group-preserved : goal.loop-group-preserved
loop-group-preserved g c =
    let of = λ (x : g.row.F.Denot). g.EF.Algebra.embedding (g.F.Field.number x) in
    let N = g.EF.Field.number in
    let items = c.statements-group-items.result.now in
    let i = c.loop-group.group-index in
    let x = c.group-item.result in
    let more = groups-more (group_statements of N) items i x c.loop-group-test.true c.group-item.is in
    let total = c.loop-group.count + c.len.result in
    let sum = subst (λ r. SomeIff r (total < 18446744073709551616) total) c.expect-count.ensures c.checked_add.ensures in
    omega (
      arith,
      ap length more,
      length-append (all_statements of N (take i items)) (group_statements of N x),
      c.loop-group.invariant,
      c.len.ensures,
      sum.1,
    )

pub returns : goal.returns
returns g c =
    let of = λ (x : g.row.F.Denot). g.EF.Algebra.embedding (g.F.Field.number x) in
    let items = c.statements-group-items.result.now in
    c.loop-group.invariant
    ∙ ap (λ l. length (all_statements of g.EF.Field.number l)) (take_all c.loop-group.group-index items c.loop-group-test.false ∙ c.statements-group-items.ensures.groups)
