use Rattle.std.proofs.Common.{◌<◌, ◌≤◌, length, arith}
use Rattle.sc_statements.proofs.FalseSteps.{other_from_ne, same_from_ne, search-next, search-found, search-end}
use Rattle.sc_statements.proofs.list.first_false.Goals as goal

pub returns-then-ne : goal.returns-then-ne
returns-then-ne g c =
    let f = g.EF.Field in
    let ss = g.S.StatementList.statements c.args.statements.now in
    let low : c.loop-i.i < length ss = omega (arith, c.loop-i-test.true, c.count-i-end.ensures) in
    search-found f.ops _ _ ss c.loop-i.i c.loop-i.invariant low (f.number c.claim_at-claimed.result) (f.number c.truth_at-actual.result) _ _ c.claim_at-claimed.ensures c.truth_at-actual.ensures
    (other_from_ne _ _ (g.met.EF.Field.equality c.truth_at-actual.result c.claim_at-claimed.result) c.if-ne.ensures) c.index.ensures c.index-then-ne.ensures

pub loop-i-preserved : goal.loop-i-preserved
loop-i-preserved g c =
    let f = g.EF.Field in
    let ss = g.S.StatementList.statements c.args.statements.now in
    let low : c.loop-i.i < length ss = omega (arith, c.loop-i-test.true, c.count-i-end.ensures) in
    search-next f.ops _ _ ss c.loop-i.i c.loop-i.invariant low (f.number c.claim_at-claimed.result) (f.number c.truth_at-actual.result) c.claim_at-claimed.ensures c.truth_at-actual.ensures
    (same_from_ne _ _ (g.met.EF.Field.equality c.truth_at-actual.result c.claim_at-claimed.result) c.if-ne.ensures)

pub returns : goal.returns
returns g c =
    let past : length (g.S.StatementList.statements c.args.statements.now) ≤ c.loop-i.i = omega (arith, c.loop-i-test.false, c.count-i-end.ensures) in
    search-end g.EF.Field.ops _ _ _ c.loop-i.i c.loop-i.invariant past
