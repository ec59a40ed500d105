use Rattle.std.proofs.Common.{◌≡◌, map, take}
use Rattle.sumcheck_product.proofs.asked.image_lists.Given as goal

abbrev pub invariant-loop-list : goal.invariant-loop-list
invariant-loop-list g l = map (λ t. map g.EF.Field.number t.items) l.found.items ≡ map (map g.EF.Algebra.embedding) (take l.list-index l.lists)
