use Rattle.std.proofs.Common.{sym, subst}
use Rattle.sc_definitions.specs.ProverViews.{IsTrueClaim}
use Rattle.sc_rounds.proofs.HeldLaws.{none_held, settled, message_pair, left_before, two_left, nothing_held}
use Rattle.sc_rounds.proofs.held_product.HeldProduct.measure.Goals as goal

pub invariant_of-self : goal.invariant_of-self
invariant_of-self g c =
    let o = g.EF.Field.ops in
    let t = c.args.self.now in
    record {
      left = nothing_held;
      true_sum = subst (IsTrueClaim o)
          (sym (settled o g.EF.Field.number t.poly c.bind_and_measure.new.self t.sum c.in-Some.r t.held c.in-Some.is c.bind_and_measure.ensures.bound)) t.true_sum;
    }

pub returns-in-Some-clause-kept : goal.returns-in-Some-clause-kept
returns-in-Some-clause-kept g c =
    let t = c.args.self.now in
    settled g.EF.Field.ops g.EF.Field.number t.poly c.bind_and_measure.new.self t.sum c.in-Some.r t.held c.in-Some.is c.bind_and_measure.ensures.bound

pub returns-in-Some-clause-message : goal.returns-in-Some-clause-message
returns-in-Some-clause-message g c =
    let o = g.EF.Field.ops in
    let N = g.EF.Field.number in
    let t = c.args.self.now in
    let e = c.bind_and_measure.ensures in
    message_pair o N c.bind_and_measure.new.self t.sum _ _ e.message (settled o N t.poly c.bind_and_measure.new.self t.sum c.in-Some.r t.held c.in-Some.is e.bound)

pub returns-in-None-clause-message : goal.returns-in-None-clause-message
returns-in-None-clause-message g c =
    let o = g.EF.Field.ops in
    let N = g.EF.Field.number in
    let t = c.args.self.now in
    message_pair o N t.poly t.sum _ _ c.measure.ensures (sym (none_held o N t.poly t.sum t.held c.in-None.is))

pub bind_and_measure-requires : goal.bind_and_measure-requires
bind_and_measure-requires g c = two_left _ c.args.self.now.held c.in-Some.r c.in-Some.is c.requires

pub measure-requires : goal.measure-requires
measure-requires g c = left_before _ c.args.self.now.held c.in-None.is c.requires
