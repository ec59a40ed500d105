use Rattle.std.proofs.Common.{◌≡◌, map, take}
use Rattle.sc_zk_definitions.specs.Masks.{masks_at}
use Rattle.sc_commitments.specs.Matrices.{lists_in}
use Rattle.sc_zk_rounds.proofs.values.mask_residual.Given as goal

abbrev pub invariant-loop-i : goal.invariant-loop-i
invariant-loop-i g l = g.EF.Field.number l.sum ≡ masks_at g.EF.Field.ops (lists_in g.EF.Field.number l.masks) (map g.EF.Field.number (take l.i l.gammas))
