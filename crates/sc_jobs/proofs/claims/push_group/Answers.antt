use Rattle.std.proofs.Common.{map, ap, subst, ◌∙◌, ◌+◌, length, ◌≡◌, [], arith}
use Rattle.sc_definitions.specs.Ring.{power}
use Rattle.sc_constraints.specs.Groups.{group_statements}
use Rattle.sc_jobs.specs.Taken.{AreTaken}
use Rattle.sc_jobs.proofs.ClaimLaws.{no_selects, appends_none}
use Rattle.sc_jobs.proofs.claims.push_group.Goals as goal

-- in each arm the group is the statement of that arm
pub returns-in-Eq : goal.returns-in-Eq
returns-in-Eq g c = record {
  claims = rw c.in-Eq.is c.push_values.ensures.claims;
  next = rw c.in-Eq.is c.push_values.ensures.next;
  on = rw c.in-Eq.is c.push_values.ensures.on;
}

pub push_successors-requires : goal.push_successors-requires
push_successors-requires g c =
    subst (λ s. AreTaken (group_statements (λ (x : g.row.F.Denot). g.EF.Algebra.embedding (g.F.Field.number x)) g.EF.Field.number s)) c.in-Next.is c.requires

pub returns-in-Next : goal.returns-in-Next
returns-in-Next g c = record {
  claims = rw c.in-Next.is c.push_successors.ensures.claims;
  next = rw c.in-Next.is c.push_successors.ensures.next;
  on = rw c.in-Next.is c.push_successors.ensures.on;
}

-- a select has no statement
pub returns-in-Select : goal.returns-in-Select
returns-in-Select g c =
    let of = λ (x : g.row.F.Denot). g.EF.Algebra.embedding (g.F.Field.number x) in
    let N = g.EF.Field.number in
    let o = g.EF.Field.ops in
    let s = c.in-Select.field-0 in
    let none : group_statements of N c.args.group.now ≡ [] =
    ap (group_statements of N) c.in-Select.is
    ∙ no_selects of (map of) s.vars.items s.points.items (map N s.evaluations.items) (subst (λ k. AreTaken (group_statements of N k)) c.in-Select.is c.requires) in
    record {
      claims = λ p is. appends_none o N (N c.args.challenge) p (group_statements of N c.args.group.now) c.args.claimed.now none;
      next = λ p is. let same : p ≡ p + length (group_statements of N c.args.group.now) = omega (arith, ap length none) in is ∙ ap (power o (N c.args.challenge)) same;
      on = λ on. on;
    }
