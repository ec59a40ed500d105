use Rattle.std.proofs.Common.{rules, ◌∙◌, ap}
use Rattle.sc_constraints.specs.Groups.{group_arity}
use Rattle.sc_constraints.proofs.statement.Statements.add_batch.Goals as goal

-- each kind adds to what is there
pub returns-clause-added : goal.returns-clause-added
returns-clause-added g c = search rules

-- the group is the statement of the arm
pub add_batch-next-requires : goal.add_batch-next-requires
add_batch-next-requires g c = c.requires ∙ ap group_arity c.in-Eq.is

pub add_batch-next-requires-in-Next : goal.add_batch-next-requires-in-Next
add_batch-next-requires-in-Next g c = c.requires ∙ ap group_arity c.in-Next.is

pub add_batch-next-requires-in-Select : goal.add_batch-next-requires-in-Select
add_batch-next-requires-in-Select g c = c.requires ∙ ap group_arity c.in-Select.is
