use Rattle.std.proofs.Common.{refl}
use Rattle.sc_commitments.specs.Matrices.{lists_in}
use Rattle.sc_zk_definitions.specs.MaskedRuns.{Masking}
use Rattle.sc_zk_rounds.proofs.mixing.masks_total.Goals as goal

pub returns : goal.returns
returns g c =
    let N = g.EF.Field.number in
    let k : Masking = record { masks = lists_in N c.args.masks.now; eps = 0; half = N c.one_half.result; aux = N c.ZERO.result } in
    c.total.ensures k c.one_half.ensures.half (c.new.ensures k refl refl refl)
