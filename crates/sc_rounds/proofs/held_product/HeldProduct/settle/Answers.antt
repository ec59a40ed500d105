use Rattle.std.proofs.Common.{sym, subst}
use Rattle.sc_definitions.specs.ProverViews.{IsTrueClaim}
use Rattle.sc_rounds.proofs.HeldLaws.{settled, nothing_held}
use Rattle.sc_rounds.proofs.held_product.HeldProduct.settle.Goals as goal

pub invariant_of-self : goal.invariant_of-self
invariant_of-self g c =
    let o = g.EF.Field.ops in
    let t = c.args.self.now in
    record {
      left = nothing_held;
      true_sum = subst (IsTrueClaim o) (sym (settled o g.EF.Field.number t.poly c.bind.new.self t.sum c.in-Some.r t.held c.in-Some.is c.bind.ensures)) t.true_sum;
    }

pub returns-in-Some-clause-kept : goal.returns-in-Some-clause-kept
returns-in-Some-clause-kept g c =
    let t = c.args.self.now in
    settled g.EF.Field.ops g.EF.Field.number t.poly c.bind.new.self t.sum c.in-Some.r t.held c.in-Some.is c.bind.ensures
