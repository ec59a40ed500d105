use Rattle.std.proofs.Common.{◌≡◌, map}
use Rattle.sc_tests_common.proofs.counted.ImageFromTableTraced.from_table.Given as goal

abbrev pub invariant-loop-x : goal.invariant-loop-x
invariant-loop-x l = map (λ y. y.value.value) l.images.items ≡ map (λ x. x.value.value) l.yielded
