use Rattle.std.proofs.Common.{◌≡◌, map}
use Rattle.sc_definitions.specs.Sixteen.{tower_to_polynomial}
use Rattle.sc_sixteen.proofs.poly16.Poly16FromTableTower16.from_table.Given as goal

abbrev pub invariant-loop-x : goal.invariant-loop-x
invariant-loop-x l = map (λ x. x.value) l.images.items ≡ map (λ x. tower_to_polynomial x.value) l.yielded
