use Rattle.std.proofs.Common.{◌≡◌, map}
use Rattle.sc_field.proofs.representation.FromTable.from_table.Given as goal

abbrev pub invariant-loop-x : goal.invariant-loop-x
invariant-loop-x g l = map g.Self.Field.number l.images.items ≡ map (λ x. g.Self.FromTable.from_number (g.EF.Field.number x)) l.yielded
