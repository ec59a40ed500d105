use Rattle.std.proofs.Common.{ap, ◌∙◌, sym, subst}
use Rattle.sc_rounds.specs.Provers.{held_shown, stated, weight_of, claim_of}
use Rattle.sc_definitions.specs.ProverViews.{IsTrueClaim, sum_with, with_added}
use Rattle.sc_rounds.proofs.HeldLaws.{none_held, settled_pair, none_wanted, true_added}
use Rattle.sc_rounds.proofs.ShownLaws.{shown_taken}
use Rattle.sc_rounds.proofs.held_product.HeldProduct.take_in.Goals as goal

pub returns-clause-taken : goal.returns-clause-taken
returns-clause-taken g c =
    let o = g.EF.Field.ops in
    let N = g.EF.Field.number in
    let t = c.settle.new.self in
    let e = c.combine.ensures in
    let k = stated (λ y. g.EF.Algebra.embedding (g.F.Field.number y)) N c.args.constraint.now in
    none_held o N c.combine.new.self c.combine.new.sum t.held c.settle.ensures.settled
    ∙ shown_taken N o t.poly c.combine.new.self t.sum c.combine.new.sum k e.variables e.basis e.order e.evals e.added
    ∙ ap (λ s. with_added o s (weight_of o k) (claim_of o k)) (settled_pair o N t.poly t.sum t.held _ c.settle.ensures.settled c.settle.ensures.kept)

pub invariant_of-self : goal.invariant_of-self
invariant_of-self g c =
    let o = g.EF.Field.ops in
    let N = g.EF.Field.number in
    let t = c.settle.new.self in
    let e = c.combine.ensures in
    let k = stated (λ y. g.EF.Algebra.embedding (g.F.Field.number y)) N c.args.constraint.now in
    record {
      left = none_wanted _ t.held c.settle.ensures.settled;
      true_sum = subst (IsTrueClaim o)
          (sym (none_held o N c.combine.new.self c.combine.new.sum t.held c.settle.ensures.settled
          ∙ shown_taken N o t.poly c.combine.new.self t.sum c.combine.new.sum k e.variables e.basis e.order e.evals e.added
          ∙ ap (λ s. with_added o s (weight_of o k) (claim_of o k)) (sym (none_held o N t.poly t.sum t.held c.settle.ensures.settled))))
          (true_added o g.met.EF.Field.is_field.ring (held_shown o N t.poly t.held t.sum) (weight_of o k) (claim_of o k) t.true_sum
          (sym c.requires.claim ∙ ap (λ s. sum_with o s (weight_of o k)) (sym c.settle.ensures.kept)));
    }
