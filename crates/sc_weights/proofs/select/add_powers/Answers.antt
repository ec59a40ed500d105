use Rattle.std.proofs.Common.{rules, ◌≡◌, length}
use Rattle.sc_weights.proofs.PowerSteps.{block-halvings}
use Rattle.sc_weights.proofs.select.add_powers.Goals as goal

pub add_powers_by_blocks-requires-clause-size : goal.add_powers_by_blocks-requires-clause-size
add_powers_by_blocks-requires-clause-size g c =
    let many : length c.power_weights-weights.result ≡ 256 = search rules in
    block-halvings c.args.variables (length c.power_weights-weights.result) (length c.args.rows.now) c.if-variables-lt-BLOCK_COORDINATES.false many c.requires
