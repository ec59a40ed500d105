use Rattle.std.proofs.Common.{rules, ◌≡◌, length}
use Rattle.sc_weights.proofs.PowerSteps.{block-halvings}
use Rattle.sc_weights.proofs.select.powers_value.Goals as goal

pub powers_value_by_blocks-value-requires-clause-size : goal.powers_value_by_blocks-value-requires-clause-size
powers_value_by_blocks-value-requires-clause-size g c =
    let many : length c.power_weights-weights.result ≡ 256 = search rules in
    block-halvings c.args.variables (length c.power_weights-weights.result) (length c.args.rows.now) c.if-variables-lt-BLOCK_COORDINATES.false many c.requires
