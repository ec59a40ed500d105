use Rattle.std.proofs.Common.{rules, arith, map}
use Rattle.std.proofs.lemmas.List.{length-map}
use Rattle.sc_challenger.proofs.SortedLists.{goes_on, same_rules}
use Rattle.sc_challenger.proofs.scripted.sort_each.Goals as goal

-- one list more is sorted
pub loop-list-preserved : goal.loop-list-preserved
loop-list-preserved g c =
    goes_on g.F.Field.number (λ list. list.items) c.loop-list.list-index _ c.loop-list.lists c.list-item.result c.sort.new.list (search rules)
    c.sort.ensures.sorted c.sort.ensures.moved c.loop-list.invariant

-- after the loop all are
pub returns-clause-sorted : goal.returns-clause-sorted
returns-clause-sorted g c k d low =
    let many = length-map c.loop-list.lists (λ list. map g.F.Field.number list.items) in
    c.loop-list.invariant.sorted k d (omega (arith, many))

pub returns-clause-same : goal.returns-clause-same
returns-clause-same g c draws = same_rules draws _ _ _ c.loop-list.invariant
