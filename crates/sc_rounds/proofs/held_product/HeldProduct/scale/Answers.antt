use Rattle.std.proofs.Common.{ap, ◌∙◌, sym, subst}
use Rattle.sc_rounds.specs.Provers.{held_shown}
use Rattle.sc_definitions.specs.ProverViews.{IsTrueClaim, with_scaled}
use Rattle.sc_rounds.proofs.HeldLaws.{none_held, settled_pair, none_wanted, true_scaled}
use Rattle.sc_rounds.proofs.ShownLaws.{shown_scaled}
use Rattle.sc_rounds.proofs.held_product.HeldProduct.scale.Goals as goal

pub returns-clause-scaled : goal.returns-clause-scaled
returns-clause-scaled g c =
    let o = g.EF.Field.ops in
    let N = g.EF.Field.number in
    let t = c.settle.new.self in
    let e = c.scale_weights.ensures in
    let k = N c.args.scale in
    none_held o N c.scale_weights.new.self c.mul-self.result t.held c.settle.ensures.settled
    ∙ shown_scaled N o t.poly c.scale_weights.new.self t.sum c.mul-self.result k e.variables e.basis e.order e.evals e.weights c.mul-self.ensures
    ∙ ap (λ s. with_scaled o s k) (settled_pair o N t.poly t.sum t.held _ c.settle.ensures.settled c.settle.ensures.kept)

pub invariant_of-self : goal.invariant_of-self
invariant_of-self g c =
    let o = g.EF.Field.ops in
    let N = g.EF.Field.number in
    let t = c.settle.new.self in
    let e = c.scale_weights.ensures in
    let k = N c.args.scale in
    record {
      left = none_wanted _ t.held c.settle.ensures.settled;
      true_sum = subst (IsTrueClaim o)
          (sym (none_held o N c.scale_weights.new.self c.mul-self.result t.held c.settle.ensures.settled
          ∙ shown_scaled N o t.poly c.scale_weights.new.self t.sum c.mul-self.result k e.variables e.basis e.order e.evals e.weights c.mul-self.ensures
          ∙ ap (λ s. with_scaled o s k) (sym (none_held o N t.poly t.sum t.held c.settle.ensures.settled))))
          (true_scaled o g.met.EF.Field.is_field.ring (held_shown o N t.poly t.held t.sum) k t.true_sum);
    }
