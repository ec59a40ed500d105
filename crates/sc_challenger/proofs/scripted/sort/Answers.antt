use Rattle.std.proofs.Common.{rules}
use Rattle.std.proofs.lemmas.List.Sorted.{IsNonDecreasingBy-from_sort_by_key}
use Rattle.sc_challenger.proofs.SortedLists.{ascends}
use Rattle.sc_challenger.proofs.scripted.sort.Goals as goal

-- the closure gives an element's number
pub returns-clause-sorted : goal.returns-clause-sorted
returns-clause-sorted g c =
    ascends g.F.Field.number _ (IsNonDecreasingBy-from_sort_by_key g.F.Field.number _ c.sort_unstable_by_key.ensures.sorted (λ a r f' called. search rules))
