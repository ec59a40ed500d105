use Rattle.std.proofs.Common.{ap, ◌∙◌, sym, subst}
use Rattle.sc_definitions.specs.Tables.{entries}
use Rattle.sc_rounds.specs.Provers.{held_shown}
use Rattle.sc_definitions.specs.ProverViews.{IsTrueClaim, sum_with, with_added}
use Rattle.sc_rounds.proofs.HeldLaws.{none_held, settled_pair, none_wanted, true_added}
use Rattle.sc_rounds.proofs.ShownLaws.{shown_added}
use Rattle.sc_rounds.proofs.held_product.HeldProduct.add.Goals as goal

pub returns-clause-added : goal.returns-clause-added
returns-clause-added g c =
    let o = g.EF.Field.ops in
    let N = g.EF.Field.number in
    let t = c.settle.new.self in
    let e = c.add_weights.ensures in
    let v = entries N c.args.delta.now in
    let d = N c.args.sum_delta in
    none_held o N c.add_weights.new.self c.add-self.result t.held c.settle.ensures.settled
    ∙ shown_added N o t.poly c.add_weights.new.self t.sum c.add-self.result v d e.variables e.basis e.order e.evals e.weights c.add-self.ensures
    ∙ ap (λ s. with_added o s v d) (settled_pair o N t.poly t.sum t.held _ c.settle.ensures.settled c.settle.ensures.kept)

pub invariant_of-self : goal.invariant_of-self
invariant_of-self g c =
    let o = g.EF.Field.ops in
    let N = g.EF.Field.number in
    let t = c.settle.new.self in
    let e = c.add_weights.ensures in
    let v = entries N c.args.delta.now in
    let d = N c.args.sum_delta in
    let shown = held_shown o N t.poly t.held t.sum in
    record {
      left = none_wanted _ t.held c.settle.ensures.settled;
      true_sum = subst (IsTrueClaim o)
          (sym (none_held o N c.add_weights.new.self c.add-self.result t.held c.settle.ensures.settled
          ∙ shown_added N o t.poly c.add_weights.new.self t.sum c.add-self.result v d e.variables e.basis e.order e.evals e.weights c.add-self.ensures
          ∙ ap (λ s. with_added o s v d) (sym (none_held o N t.poly t.sum t.held c.settle.ensures.settled))))
          (true_added o g.met.EF.Field.is_field.ring shown v d t.true_sum (c.requires.sum ∙ ap (λ s. sum_with o s v) (sym c.settle.ensures.kept)));
    }
