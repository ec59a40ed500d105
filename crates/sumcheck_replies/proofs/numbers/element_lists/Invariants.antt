use Rattle.std.proofs.Common.{◌≡◌, map, take}
use Rattle.sumcheck_replies.proofs.numbers.element_lists.Given as goal

abbrev pub invariant-loop-list : goal.invariant-loop-list
invariant-loop-list g l = map (λ list. map g.F.Field.number list.items) l.found.items ≡ take l.list-index l.lists
