use Rattle.std.proofs.Common.{[], ◌∷◌, ap, sym, ◌∙◌, subst}
use Rattle.sc_definitions.specs.Rounds.{next_claim}
use Rattle.sc_rounds.specs.Provers.{held_shown}
use Rattle.sc_definitions.specs.ProverViews.{IsTrueClaim}
use Rattle.sc_rounds.proofs.HeldLaws.{bound_shown, true_bound, left_before}
use Rattle.sc_rounds.proofs.held_product.HeldProduct.bind.Goals as goal

pub returns-clause-bound : goal.returns-clause-bound
returns-clause-bound g c =
    let t = c.args.self.now in
    bound_shown g.EF.Field.ops g.EF.Field.number t.poly t.sum _ c.args.r t.held _ c.requires.settled c.requires.message
    (c.reduce_claim-self.ensures.claim ∙ ap (λ b. next_claim b g.EF.Field.ops (g.EF.Field.number t.sum) (g.EF.Field.number c.args.message.c_a ∷ g.EF.Field.number c.args.message.c_inf ∷ []) (g.EF.Field.number c.args.r)) c.basis-basis.ensures)

pub invariant_of-self : goal.invariant_of-self
invariant_of-self g c =
    let o = g.EF.Field.ops in
    let N = g.EF.Field.number in
    let t = c.args.self.now in
    record {
      left = λ r _. left_before _ t.held c.requires.settled c.requires.left;
      true_sum = subst (IsTrueClaim o)
          (sym (bound_shown o N t.poly t.sum c.reduce_claim-self.result c.args.r t.held _ c.requires.settled c.requires.message
          (c.reduce_claim-self.ensures.claim ∙ ap (λ b. next_claim b o (N t.sum) (N c.args.message.c_a ∷ N c.args.message.c_inf ∷ []) (N c.args.r)) c.basis-basis.ensures)))
          (true_bound o g.met.EF.Field.is_field.ring (held_shown o N t.poly t.held t.sum) t.poly.offered (N c.args.r) c.requires.left t.true_sum);
    }
