use Rattle.std.proofs.Common.{◌∙◌, ap}
use Rattle.sc_constraints.specs.Groups.{group_arity}
use Rattle.sc_constraints.proofs.statement.Statements.add_weights_at.Goals as goal

-- in each arm the group is the statement of that arm
pub add_weights_at-requires : goal.add_weights_at-requires
add_weights_at-requires g c = c.requires ∙ ap group_arity c.in-Eq.is

pub add_weights_at-requires-in-Next : goal.add_weights_at-requires-in-Next
add_weights_at-requires-in-Next g c = c.requires ∙ ap group_arity c.in-Next.is

pub add_weights_at-requires-in-Select : goal.add_weights_at-requires-in-Select
add_weights_at-requires-in-Select g c = c.requires ∙ ap group_arity c.in-Select.is

pub returns-in-Eq-clause-added : goal.returns-in-Eq-clause-added
returns-in-Eq-clause-added g c = rw c.in-Eq.is c.add_weights_at.ensures.added

pub returns-in-Eq-clause-next : goal.returns-in-Eq-clause-next
returns-in-Eq-clause-next g c = rw c.in-Eq.is c.add_weights_at.ensures.next

pub returns-in-Next-clause-added : goal.returns-in-Next-clause-added
returns-in-Next-clause-added g c = rw c.in-Next.is c.add_weights_at-in-Next.ensures.added

pub returns-in-Next-clause-next : goal.returns-in-Next-clause-next
returns-in-Next-clause-next g c = rw c.in-Next.is c.add_weights_at-in-Next.ensures.next

pub returns-in-Select-clause-added : goal.returns-in-Select-clause-added
returns-in-Select-clause-added g c = rw c.in-Select.is c.add_weights_at-in-Select.ensures.added

pub returns-in-Select-clause-next : goal.returns-in-Select-clause-next
returns-in-Select-clause-next g c = rw c.in-Select.is c.add_weights_at-in-Select.ensures.next
