use Rattle.sc_rounds.proofs.HeldLaws.{nothing_held}
use Rattle.sc_rounds.proofs.ShownLaws.{true_shown}
use Rattle.sc_rounds.proofs.held_product.HeldProduct.new.Goals as goal

pub invariant_of-result : goal.invariant_of-result
invariant_of-result g c = record { left = nothing_held; true_sum = true_shown g.EF.Field.number g.EF.Field.ops c.args.poly c.args.sum c.requires }
