use Rattle.std.proofs.Common.{◌≡◌, map, flat_map}
use Rattle.std.specs.List.{range_with_len}
use Rattle.sc_commitments.specs.Matrices.{lists_in}
use Rattle.sc_commitments.specs.Codes.{values_at}
use Rattle.sc_commitments.proofs.node_code.NodeCodeZkEncoding.encode_batch_with_randomness.Given as goal

abbrev pub invariant-loop-z : goal.invariant-loop-z
invariant-loop-z g l =
    map g.EF.Field.number l.values.items ≡ flat_map (values_at g.EF.Field.ops (lists_in g.EF.Field.number l.polynomials.items)) (range_with_len 0 l.z)
