use Rattle.sc_constraints.proofs.statement.Statements.add_values.Goals as goal

-- in each arm the group is the statement of that arm
pub returns-in-Eq-clause-added : goal.returns-in-Eq-clause-added
returns-in-Eq-clause-added g c = rw c.in-Eq.is c.add_values.ensures.added

pub returns-in-Eq-clause-next : goal.returns-in-Eq-clause-next
returns-in-Eq-clause-next g c = rw c.in-Eq.is c.add_values.ensures.next

pub returns-in-Next-clause-added : goal.returns-in-Next-clause-added
returns-in-Next-clause-added g c = rw c.in-Next.is c.add_values-in-Next.ensures.added

pub returns-in-Next-clause-next : goal.returns-in-Next-clause-next
returns-in-Next-clause-next g c = rw c.in-Next.is c.add_values-in-Next.ensures.next

pub returns-in-Select-clause-added : goal.returns-in-Select-clause-added
returns-in-Select-clause-added g c = rw c.in-Select.is c.add_values-in-Select.ensures.added

pub returns-in-Select-clause-next : goal.returns-in-Select-clause-next
returns-in-Select-clause-next g c = rw c.in-Select.is c.add_values-in-Select.ensures.next
