use Rattle.std.proofs.Common.{◌<◌, length, map, take, sym, ◌∙◌, ap, arith}
use Rattle.std.proofs.lemmas.List.{length-map}
use Rattle.sc_statements.specs.Claimed.{with_value}
use Rattle.sc_statements.proofs.Selecting.{slice_index-map}
use Rattle.sc_statements.proofs.ClaimLaws.{with_values-length, with_values-more}
use Rattle.sc_statements.proofs.list.claim_values.Goals as goal

-- there are still as many statements
pub claim-requires : goal.claim-requires
claim-requires g c =
    let ss = g.S.StatementList.statements c.args.statements.now in
    let vs = map g.EF.Field.number c.args.values.now in
    omega (arith, ap length c.loop-i.invariant.statements, with_values-length ss (take c.loop-i.i vs), c.requires, c.loop-i-test.true)

pub loop-i-preserved : goal.loop-i-preserved
loop-i-preserved g c =
    let N = g.EF.Field.number in
    let ss = g.S.StatementList.statements c.args.statements.now in
    let i = c.loop-i.i in
    let x = c.index-values-i.result in
    let low : i < length (map N c.args.values.now) = omega (arith, length-map c.args.values.now N, c.loop-i-test.true) in
    record {
      arity = c.claim.ensures.arity ∙ c.loop-i.invariant.arity;
      statements = c.claim.ensures.statements ∙ ap (λ l. with_value l i (N x)) c.loop-i.invariant.statements
          ∙ sym (with_values-more ss (map N c.args.values.now) i (N x) low (sym (slice_index-map N c.args.values.now i x c.loop-i-test.true c.index-values-i.is)));
    }
