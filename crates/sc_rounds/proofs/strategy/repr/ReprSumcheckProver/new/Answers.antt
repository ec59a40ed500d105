use Rattle.std.proofs.Common.{◌≡◌, ℕ, ap, sym, ◌∙◌, subst}
use Rattle.std.proofs.lemmas.Simd.{map-map}
use Rattle.std.proofs.lemmas.Result.{IfOk-from_err}
use Rattle.sc_rounds.specs.Products.{variables_in}
use Rattle.sc_rounds.specs.Provers.{held_shown}
use Rattle.sc_definitions.specs.ProverViews.{IsTrueClaim}
use Rattle.sc_definitions.proofs.MappedRounds.{same_images}
use Rattle.sc_rounds.proofs.ShownLaws.{same_numbers}
use Rattle.sc_rounds.proofs.HeldImages.{held_below, image_held, true_back, left_for_image}
use Rattle.sc_rounds.proofs.strategy.repr.ReprSumcheckProver.new.Goals as goal

-- the tables, the challenge and the claim have the images of the prover's
pub returns-clause-stored : goal.returns-clause-stored
returns-clause-stored g c =
    let represents = g.met.R.FromTable.represents in
    let to = g.R.FromTable.to_number in
    let N = g.R.Field.number in
    let T : g.row.R.Denot → ℕ = λ x. to (N x) in
    let p = c.args.prover.rounds.poly in
    let q = c.new_unpacked.result in
    let tables = c.into_tables-order.ensures in
    let same = same_images g.R.Field.ops g.EF.Field.ops g.met.R.Field.is_field.ring g.met.EF.Field.is_field.ring to represents.back N N in
    let size : variables_in q ≡ variables_in p = c.new_unpacked.ensures.variables ∙ c.in_ok-evals.ensures.variables ∙ tables.variables in
    let evals = same_numbers g.EF.Field.number T p.evals q.evals size (same _ _ c.new_unpacked.ensures.evals ∙ c.in_ok-evals.ensures.images ∙ tables.evals) in
    let weights = same_numbers g.EF.Field.number T p.weights q.weights (sym q.same ∙ size ∙ p.same) (same _ _ c.new_unpacked.ensures.weights ∙ c.in_ok-weights.ensures.images ∙ tables.weights) in
    λ i. record { evals = evals i; weights = weights i; held = c.image_if_some.ensures i }

pub returns-clause-shown : goal.returns-clause-shown
returns-clause-shown g c =
    let represents = g.met.R.FromTable.represents in
    let r = g.R.Field.ops in let e = g.EF.Field.ops in
    let ring_r = g.met.R.Field.is_field.ring in let ring_e = g.met.EF.Field.is_field.ring in
    let to = g.R.FromTable.to_number in
    let N = g.R.Field.number in
    let T : g.row.R.Denot → ℕ = λ x. to (N x) in
    let t = c.args.prover.rounds in
    let p = t.poly in
    let q = c.new_unpacked.result in
    let tables = c.into_tables-order.ensures in
    let same = same_images r e ring_r ring_e to represents.back N N in
    let size : variables_in q ≡ variables_in p = c.new_unpacked.ensures.variables ∙ c.in_ok-evals.ensures.variables ∙ tables.variables in
    let evals = same_numbers g.EF.Field.number T p.evals q.evals size (same _ _ c.new_unpacked.ensures.evals ∙ c.in_ok-evals.ensures.images ∙ tables.evals) in
    let weights = same_numbers g.EF.Field.number T p.weights q.weights (sym q.same ∙ size ∙ p.same) (same _ _ c.new_unpacked.ensures.weights ∙ c.in_ok-weights.ensures.images ∙ tables.weights) in
    image_held r e ring_r ring_e to represents.back N g.EF.Field.number g.met.R.Field.number_below q p c.image_if_some.result t.held c.from_element.result t.sum
    (c.new_unpacked.ensures.basis ∙ sym c.requires) (c.new_unpacked.ensures.order ∙ tables.order) size (map-map to N q.evals.evals.items ∙ evals) (map-map to N q.weights.evals.items ∙ weights) c.image_if_some.ensures
    (ap to c.from_element.ensures ∙ represents.back_forth _ (g.met.EF.Field.number_below t.sum))

pub invariant_of-rounds : goal.invariant_of-rounds
invariant_of-rounds g c =
    let represents = g.met.R.FromTable.represents in
    let r = g.R.Field.ops in let e = g.EF.Field.ops in
    let ring_r = g.met.R.Field.is_field.ring in let ring_e = g.met.EF.Field.is_field.ring in
    let to = g.R.FromTable.to_number in
    let N = g.R.Field.number in
    let T : g.row.R.Denot → ℕ = λ x. to (N x) in
    let t = c.args.prover.rounds in
    let p = t.poly in
    let q = c.new_unpacked.result in
    let tables = c.into_tables-order.ensures in
    let same = same_images r e ring_r ring_e to represents.back N N in
    let size : variables_in q ≡ variables_in p = c.new_unpacked.ensures.variables ∙ c.in_ok-evals.ensures.variables ∙ tables.variables in
    let evals = same_numbers g.EF.Field.number T p.evals q.evals size (same _ _ c.new_unpacked.ensures.evals ∙ c.in_ok-evals.ensures.images ∙ tables.evals) in
    let weights = same_numbers g.EF.Field.number T p.weights q.weights (sym q.same ∙ size ∙ p.same) (same _ _ c.new_unpacked.ensures.weights ∙ c.in_ok-weights.ensures.images ∙ tables.weights) in
    let shown = image_held r e ring_r ring_e to represents.back N g.EF.Field.number g.met.R.Field.number_below q p c.image_if_some.result t.held c.from_element.result t.sum
    (c.new_unpacked.ensures.basis ∙ sym c.requires) (c.new_unpacked.ensures.order ∙ tables.order) size (map-map to N q.evals.evals.items ∙ evals) (map-map to N q.weights.evals.items ∙ weights) c.image_if_some.ensures
    (ap to c.from_element.ensures ∙ represents.back_forth _ (g.met.EF.Field.number_below t.sum)) in
    record {
      left = left_for_image g.EF.Field.number T _ _ t.held c.image_if_some.result c.image_if_some.ensures size t.left;
      true_sum = true_back e r ring_e ring_r g.R.FromTable.from_number to represents (held_shown r N q c.image_if_some.result c.from_element.result)
          (held_below r ring_r to e ring_e represents.back N g.met.R.Field.number_below q c.from_element.result c.image_if_some.result)
          (subst (IsTrueClaim e) (sym shown) t.true_sum);
    }

-- a refusal tells nothing of an answer
pub returns-in_err-evals-clause-shown : goal.returns-in_err-evals-clause-shown
returns-in_err-evals-clause-shown g c = IfOk-from_err c.from_residual.result _ c.from_residual.ensures.0

pub returns-in_err-evals-clause-stored : goal.returns-in_err-evals-clause-stored
returns-in_err-evals-clause-stored g c = IfOk-from_err c.from_residual.result _ c.from_residual.ensures.0

pub returns-in_err-weights-clause-shown : goal.returns-in_err-weights-clause-shown
returns-in_err-weights-clause-shown g c = IfOk-from_err c.from_residual-in_err-weights.result _ c.from_residual-in_err-weights.ensures.0

pub returns-in_err-weights-clause-stored : goal.returns-in_err-weights-clause-stored
returns-in_err-weights-clause-stored g c = IfOk-from_err c.from_residual-in_err-weights.result _ c.from_residual-in_err-weights.ensures.0
