use Rattle.std.proofs.Common.{◌<◌, length, refl, ◌∙◌, arith}
use Rattle.std.proofs.lemmas.List.{drop_all}
use Rattle.sc_statements.specs.NextStatements.{next_arity, next_statements}
use Rattle.sc_jobs.proofs.ClaimLaws.{successors_on, pushed_none, pushed_successor, pushed_all, pushed_next}
use Rattle.sc_jobs.proofs.claims.push_successors.Goals as goal

pub loop-i-init : goal.loop-i-init
loop-i-init g c =
    let N = g.EF.Field.number in
    let s = c.args.statement.now in
    pushed_none N g.EF.Field.ops g.met.EF.Field.is_field.ring (N c.args.challenge) (next_arity s) c.args.claimed.now (next_statements N s) (N c.args.first) (next_statements N s) refl
    (successors_on N (next_arity s) s.constraints.items s.fits) c.requires

pub loop-i-preserved : goal.loop-i-preserved
loop-i-preserved g c =
    let N = g.EF.Field.number in
    let s = c.args.statement.now in
    let now = c.loop-i.claimed in
    let factor = c.loop-i.coefficient in
    let low : c.loop-i.i < length (next_statements N s) = omega (arith, c.loop-i-test.true, c.len-i-end.ensures) in
    pushed_successor N g.EF.Field.ops g.met.EF.Field.is_field.ring (N c.args.challenge) (next_arity s) c.args.claimed.now now s.constraints.items (N c.args.first) (N factor) c.loop-i.i
    c.loop-i.invariant low _ _ c.in_ok-point.point c.claimed_value.result factor (c.in_ok-point.ensures ∙ c.point.ensures) c.claimed_value.ensures
    c.in_ok-push.ensures.claims c.in_ok-push.ensures.values refl c.mul-coefficient.ensures

pub returns : goal.returns
returns g c =
    let N = g.EF.Field.number in
    let s = c.args.statement.now in
    let inv = c.loop-i.invariant in
    let none = drop_all c.loop-i.i (next_statements N s) (omega (arith, c.loop-i-test.false, c.len-i-end.ensures)) in
    record {
      claims = pushed_all N g.EF.Field.ops g.met.EF.Field.is_field.ring (N c.args.challenge) (next_arity s) c.args.claimed.now (next_statements N s) (N c.args.first) _ _ _ _ inv none;
      next = pushed_next N g.EF.Field.ops g.met.EF.Field.is_field.ring (N c.args.challenge) (next_arity s) c.args.claimed.now (next_statements N s) (N c.args.first) _ _ _ _ inv none;
      on = inv.on;
    }
