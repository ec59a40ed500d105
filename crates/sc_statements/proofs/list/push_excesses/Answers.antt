use Rattle.std.proofs.Common.{ℕ, ◌<◌, ◌≤◌, length, arith}
use Rattle.sc_definitions.specs.Tables.{entries}
use Rattle.sc_statements.proofs.Selecting.{on-refusal}
use Rattle.sc_statements.proofs.ExcessLaws.{gained-none, gained-more, gained-all, gained-some}
use Rattle.sc_statements.proofs.list.push_excesses.Goals as goal

pub loop-i-init : goal.loop-i-init
loop-i-init g c =
    let f = g.EF.Field in
    let list = g.S.StatementList in
    let ss = list.statements c.args.statements.now in
    let n = list.arity c.args.statements.now in
    let table : ℕ → ℕ = λ b. g.EF.Algebra.embedding (entries g.A.Field.number c.args.rows.now b) in
    let old = c.args.excesses.now.items in
    gained-none f.number f.ops n table ss old

pub loop-i-preserved : goal.loop-i-preserved
loop-i-preserved g c =
    let f = g.EF.Field in
    let list = g.S.StatementList in
    let ss = list.statements c.args.statements.now in
    let n = list.arity c.args.statements.now in
    let table : ℕ → ℕ = λ b. g.EF.Algebra.embedding (entries g.A.Field.number c.args.rows.now b) in
    let old = c.args.excesses.now.items in
    let low : c.loop-i.i < length ss = omega (arith, c.loop-i-test.true, c.count-i-end.ensures) in
    gained-more f.number f.ops n table ss c.loop-i.i low old c.loop-i.excesses.items _ c.sub.result _ _ c.loop-i.invariant c.in_ok-push.ensures.items c.sub.ensures
    c.claim_at.ensures c.truth_at-actual.ensures

pub returns-clause-added : goal.returns-clause-added
returns-clause-added g c =
    let f = g.EF.Field in
    let list = g.S.StatementList in
    let ss = list.statements c.args.statements.now in
    let n = list.arity c.args.statements.now in
    let table : ℕ → ℕ = λ b. g.EF.Algebra.embedding (entries g.A.Field.number c.args.rows.now b) in
    let old = c.args.excesses.now.items in
    let past : length ss ≤ c.loop-i.i = omega (arith, c.loop-i-test.false, c.count-i-end.ensures) in
    gained-all f.number f.ops n table ss c.loop-i.i past old c.loop-i.excesses.items c.loop-i.invariant

-- no memory for the next one
pub returns-in_err-push-clause-refused : goal.returns-in_err-push-clause-refused
returns-in_err-push-clause-refused g c =
    let f = g.EF.Field in
    let list = g.S.StatementList in
    let ss = list.statements c.args.statements.now in
    let n = list.arity c.args.statements.now in
    let table : ℕ → ℕ = λ b. g.EF.Algebra.embedding (entries g.A.Field.number c.args.rows.now b) in
    let old = c.args.excesses.now.items in
    let low : c.loop-i.i < length ss = omega (arith, c.loop-i-test.true, c.count-i-end.ensures) in
    on-refusal c.from_residual.result _
    (gained-some f.number f.ops n table ss c.loop-i.i low old c.loop-i.excesses.items c.push.new.self.items c.loop-i.invariant c.in_err-push.ensures.items)
