use Rattle.std.proofs.Common.{◌≡◌, map, take}
use Rattle.sc_challenger.proofs.scripted.copied.Given as goal

abbrev pub invariant-loop-list : goal.invariant-loop-list
invariant-loop-list g l =
    map (λ v. map g.F.Field.number v.items) l.copies.items ≡ map (λ v. map g.F.Field.number v.items) (take l.list-index l.lists)
