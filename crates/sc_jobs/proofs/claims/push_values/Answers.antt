use Rattle.std.proofs.Common.{◌++◌, ◌∷◌, [], length, false, map, refl, ap, ◌∙◌}
use Rattle.std.proofs.lemmas.List.{length-append}
use Rattle.sc_definitions.specs.Statements.{equality, claims}
use Rattle.sc_statements.specs.EqStatements.{eq_arity, eq_statements}
use Rattle.sc_statements.specs.EqIterators.{pairs_left}
use Rattle.sc_jobs.proofs.ClaimLaws.{points_taken, pushed_none, value_claim, next_on, pushed_more, pushed_all, pushed_next}
use Rattle.sc_jobs.proofs.claims.push_values.Goals as goal

pub loop-point-init : goal.loop-point-init
loop-point-init g c =
    let N = g.EF.Field.number in
    pushed_none N g.EF.Field.ops g.met.EF.Field.is_field.ring (N c.args.challenge) (eq_arity c.args.statement.now) c.args.claimed.now (eq_statements N c.args.statement.now) (N c.args.first) _
    (ap (pairs_left N) c.into_iter-point-iterator.ensures.into_iter_gives ∙ c.iter-point-items.ensures.pairs) c.iter-point-items.ensures.arity
    (points_taken N c.args.statement.now.constraints.items)

pub loop-point-preserved : goal.loop-point-preserved
loop-point-preserved g c =
    let N = g.EF.Field.number in
    let o = g.EF.Field.ops in
    let ring = g.met.EF.Field.is_field.ring in
    let n = eq_arity c.args.statement.now in
    let ss = eq_statements N c.args.statement.now in
    let steps = c.in-Some.ensures.steps in
    let point = c.in-Some.point.now in
    let s = claims (equality (map N point)) (N c.in-Some.value.now) in
    let now = c.loop-point.claimed in
    let k = length c.loop-point.yielded in
    let factor = c.loop-point.coefficient in
    let on = next_on N o ring (N c.args.challenge) n c.args.claimed.now ss (N c.args.first) now _ _ k (N factor) s c.loop-point.invariant steps in
    pushed_more N o ring (N c.args.challenge) n c.args.claimed.now ss (N c.args.first) now _ _ k (N factor) s c.loop-point.invariant steps _ _ _
    (record { point = point; successor = false; coefficient = factor }) c.in-Some.value.now (value_claim N n point (N c.in-Some.value.now) factor on) refl
    (c.in_ok-push.ensures.claims ∙ ap (λ xs. now.claims.items ++ record { point = xs; successor = false; coefficient = factor } ∷ []) c.in_ok-point.ensures)
    c.in_ok-push.ensures.values refl c.mul-coefficient.ensures (length-append c.loop-point.yielded _)

pub returns : goal.returns
returns g c =
    let N = g.EF.Field.number in
    let inv = c.loop-point.invariant in
    let none = c.in-None.ensures.steps.0 in
    record {
      claims = pushed_all N g.EF.Field.ops g.met.EF.Field.is_field.ring (N c.args.challenge) (eq_arity c.args.statement.now) c.args.claimed.now _ (N c.args.first) _ _ _ _ inv none;
      next = pushed_next N g.EF.Field.ops g.met.EF.Field.is_field.ring (N c.args.challenge) (eq_arity c.args.statement.now) c.args.claimed.now _ (N c.args.first) _ _ _ _ inv none;
      on = inv.on;
    }
