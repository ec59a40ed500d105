use Rattle.std.proofs.Common.{◌≡◌, ℕ, ◌<◌, ◌≤◌, length, take, slice_index, sym, ◌∙◌, ap, arith}
use Rattle.std.proofs.lemmas.List.{length-map, take_all}
use Rattle.sc_definitions.specs.Tables.{entries}
use Rattle.sc_definitions.specs.Statements.{true_value, true_values}
use Rattle.sc_statements.specs.Claimed.{with_value, with_values}
use Rattle.sc_statements.proofs.ClaimLaws.{with_values-length, with_values-more, true_values-with, with_true_values}
use Rattle.sc_statements.proofs.list.claim_truth.Goals as goal

-- there are still as many statements
pub truth_at-actual-requires-clause-index : goal.truth_at-actual-requires-clause-index
truth_at-actual-requires-clause-index g c =
    let list = g.S.StatementList in
    let ss = list.statements c.args.statements.now in
    let f : ℕ → ℕ = λ b. g.EF.Algebra.embedding (entries g.A.Field.number c.args.rows.now b) in
    let vs = true_values g.EF.Field.ops (list.arity c.args.statements.now) f ss in
    omega (arith, ap length c.loop-i.invariant.statements, with_values-length ss (take c.loop-i.i vs), c.loop-i-test.true, c.count-i-end.ensures)

pub claim-requires : goal.claim-requires
claim-requires g c =
    let list = g.S.StatementList in
    let ss = list.statements c.args.statements.now in
    let f : ℕ → ℕ = λ b. g.EF.Algebra.embedding (entries g.A.Field.number c.args.rows.now b) in
    let vs = true_values g.EF.Field.ops (list.arity c.args.statements.now) f ss in
    omega (arith, ap length c.loop-i.invariant.statements, with_values-length ss (take c.loop-i.i vs), c.loop-i-test.true, c.count-i-end.ensures)

-- what was claimed before makes no difference to what is true
pub loop-i-preserved : goal.loop-i-preserved
loop-i-preserved g c =
    let list = g.S.StatementList in
    let o = g.EF.Field.ops in
    let n = list.arity c.args.statements.now in
    let ss = list.statements c.args.statements.now in
    let f : ℕ → ℕ = λ b. g.EF.Algebra.embedding (entries g.A.Field.number c.args.rows.now b) in
    let vs = true_values o n f ss in
    let i = c.loop-i.i in
    let v = g.EF.Field.number c.truth_at-actual.result in
    let low : i < length vs = omega (arith, length-map ss (λ s. true_value o n f s.kind), c.loop-i-test.true, c.count-i-end.ensures) in
    let inv = c.loop-i.invariant in
    let same : true_values o (list.arity c.loop-i.statements) f (list.statements c.loop-i.statements) ≡ vs =
    ap (λ k. true_values o k f (list.statements c.loop-i.statements)) inv.arity ∙ ap (true_values o n f) inv.statements ∙ true_values-with o n f ss (take i vs) in
    record {
      arity = c.claim.ensures.arity ∙ inv.arity;
      statements = c.claim.ensures.statements ∙ ap (λ l. with_value l i v) inv.statements
          ∙ sym (with_values-more ss vs i v low (c.truth_at-actual.ensures ∙ ap (λ l. slice_index l i) same));
    }

pub returns-clause-statements : goal.returns-clause-statements
returns-clause-statements g c =
    let list = g.S.StatementList in
    let o = g.EF.Field.ops in
    let n = list.arity c.args.statements.now in
    let ss = list.statements c.args.statements.now in
    let f : ℕ → ℕ = λ b. g.EF.Algebra.embedding (entries g.A.Field.number c.args.rows.now b) in
    let vs = true_values o n f ss in
    let past : length vs ≤ c.loop-i.i = omega (arith, length-map ss (λ s. true_value o n f s.kind), c.loop-i-test.false, c.count-i-end.ensures) in
    c.loop-i.invariant.statements ∙ ap (with_values ss) (take_all c.loop-i.i vs past) ∙ with_true_values o n f ss
