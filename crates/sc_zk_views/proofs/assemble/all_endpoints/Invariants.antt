use Rattle.std.proofs.Common.{◌≡◌, map, take}
use Rattle.sc_zk_definitions.specs.Masks.{endpoint}
use Rattle.sc_commitments.specs.Matrices.{numbers_in, lists_in}
use Rattle.sc_zk_views.proofs.assemble.all_endpoints.Given as goal

abbrev pub invariant-loop-mask : goal.invariant-loop-mask
invariant-loop-mask g l =
    numbers_in g.EF.Field.number l.ends ≡ map (endpoint g.EF.Field.ops) (lists_in g.EF.Field.number (take l.mask-index l.masks))
