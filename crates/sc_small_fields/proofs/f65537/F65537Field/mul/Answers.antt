use Rattle.sc_small_fields.proofs.ProductLaws.{product_above, product_below}
use Rattle.sc_small_fields.proofs.f65537.F65537Field.mul.Goals as goal
use Rattle.sc_small_fields.proofs.f65537.F65537Field.mul.Goals.{then-low-high, else-low-high}

pub returns : goal.returns
returns c =
    let x = c.args.self in let y = c.args.other in
    elim c.if-low-high.branch [
      | then-low-high w ↦ product_above x.value y.value c.if-low-high.value w.if-low-high.true w.value-is
      | else-low-high w ↦ product_below x.value y.value c.if-low-high.value x.below y.below w.if-low-high.false w.value-is
    ]
