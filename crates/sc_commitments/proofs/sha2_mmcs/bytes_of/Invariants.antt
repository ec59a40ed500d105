use Rattle.std.proofs.Common.{◌≡◌, ◌++◌, flat_map, map, take}
use Rattle.sc_definitions.specs.Seeds.{eight_bytes}
use Rattle.sc_commitments.specs.Matrices.{rows_in}
use Rattle.sc_commitments.proofs.sha2_mmcs.bytes_of.Given as goal

abbrev pub invariant-loop-value : goal.invariant-loop-value
invariant-loop-value g l =
    l.bytes.items ≡ eight_bytes (rows_in l.m.values l.m.width) ++ eight_bytes l.m.width ++ flat_map eight_bytes (map g.EF.Field.number (take l.value-index l.m.values))
