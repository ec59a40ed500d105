use Rattle.std.proofs.Common.{◌≡◌, map, take}
use Rattle.sc_zk_definitions.specs.Masks.{powers_below}
use Rattle.sc_commitments.specs.Matrices.{lists_in}
use Rattle.sc_zk_rounds.proofs.values.mask_residual_covectors_from_shape.Given as goal

abbrev pub invariant-loop-gamma : goal.invariant-loop-gamma
invariant-loop-gamma g l =
    lists_in g.EF.Field.number l.covectors.items ≡ map (powers_below g.EF.Field.ops l.mask_len) (map g.EF.Field.number (take l.gamma-index l.gammas))
