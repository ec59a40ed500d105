use Rattle.sc_challenger.proofs.SortedLists.{SortsFirst, numbers}
use Rattle.sc_challenger.proofs.scripted.sort_each.Given as goal

abbrev pub invariant-loop-list : goal.invariant-loop-list
invariant-loop-list g l =
    SortsFirst l.list-index (numbers g.F.Field.number (λ list. list.items) l.initial.lists) (numbers g.F.Field.number (λ list. list.items) l.lists)
