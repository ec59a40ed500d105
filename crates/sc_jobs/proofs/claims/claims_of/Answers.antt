use Rattle.std.proofs.Common.{◌∙◌, ap}
use Rattle.sc_definitions.specs.Ring.{power}
use Rattle.sc_constraints.specs.Constraints.{constraint_arity, constraint_challenge, constraint_power}
use Rattle.sc_constraints.proofs.GroupSteps.{arity-of}
use Rattle.sc_constraints.specs.Groups.{group_arity}
use Rattle.sc_jobs.proofs.ClaimLaws.{gathered_begun, here_taken, gathered_more, gathered_claims, gathered_values}
use Rattle.sc_jobs.proofs.claims.claims_of.Goals as goal

pub loop-group-init : goal.loop-group-init
loop-group-init g c =
    let N = g.EF.Field.number in
    let o = g.EF.Field.ops in
    let k = c.args.constraint.now in
    gathered_begun (λ (x : g.row.F.Denot). g.EF.Algebra.embedding (g.F.Field.number x)) N o (constraint_challenge N k) (constraint_power k) (constraint_arity k) _ _ _ _
    c.new.ensures.items c.new-2.ensures.items
    (c.exp_u64-coefficient.ensures ∙ ap (λ x. power o x c.initial_power.result) c.challenge-challenge.ensures ∙ ap (power o (constraint_challenge N k)) c.initial_power.ensures)
    c.statements-group-items.ensures.groups c.requires

-- the statements of the group at a place are taken
pub push_group-requires : goal.push_group-requires
push_group-requires g c =
    let N = g.EF.Field.number in
    let k = c.args.constraint.now in
    here_taken (λ (x : g.row.F.Denot). g.EF.Algebra.embedding (g.F.Field.number x)) N g.EF.Field.ops (constraint_challenge N k) (constraint_power k) (constraint_arity k)
    c.statements-group-items.result.now c.loop-group.group-index c.loop-group.claimed (N c.loop-group.coefficient) c.loop-group.invariant c.group-item.result c.loop-group-test.true
    c.group-item.is

-- its claims were appended
pub loop-group-preserved : goal.loop-group-preserved
loop-group-preserved g c =
    let N = g.EF.Field.number in
    let k = c.args.constraint.now in
    let pushed = c.in_ok-coefficient.ensures in
    gathered_more (λ (x : g.row.F.Denot). g.EF.Algebra.embedding (g.F.Field.number x)) N g.EF.Field.ops (constraint_challenge N k) (constraint_power k) (constraint_arity k)
    c.statements-group-items.result.now c.loop-group.group-index c.loop-group.claimed (N c.loop-group.coefficient) c.loop-group.invariant c.group-item.result c.loop-group-test.true
    c.group-item.is _ _ (group_arity c.group-item.result) _
    (arity-of group_arity (constraint_arity k) c.statements-group-items.result.now _ c.loop-group.group-index c.group-item.result c.statements-group-items.ensures.arity
    c.statements-group-items.ensures.groups c.loop-group-test.true c.group-item.is)
    c.challenge-challenge.ensures pushed.claims pushed.next pushed.on

pub returns : goal.returns
returns g c =
    let N = g.EF.Field.number in
    let k = c.args.constraint.now in
    let inv = c.loop-group.invariant in
    let of = λ (x : g.row.F.Denot). g.EF.Algebra.embedding (g.F.Field.number x) in
    record {
      claims = gathered_claims of N g.EF.Field.ops (constraint_challenge N k) (constraint_power k) (constraint_arity k) c.statements-group-items.result.now c.loop-group.group-index
          c.loop-group.claimed (N c.loop-group.coefficient) inv _ c.statements-group-items.ensures.groups c.loop-group-test.false;
      values = gathered_values of N g.EF.Field.ops (constraint_challenge N k) (constraint_power k) (constraint_arity k) c.statements-group-items.result.now c.loop-group.group-index
          c.loop-group.claimed (N c.loop-group.coefficient) inv _ c.statements-group-items.ensures.groups c.loop-group-test.false;
      on = inv.on;
    }
