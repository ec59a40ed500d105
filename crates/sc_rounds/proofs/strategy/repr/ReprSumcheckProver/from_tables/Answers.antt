use Rattle.std.proofs.Common.{◌≡◌, ℕ, ◌∙◌, ap, sym}
use Rattle.std.proofs.lemmas.Simd.{map-map}
use Rattle.std.proofs.lemmas.Result.{IfOk-from_err}
use Rattle.sc_definitions.specs.Tables.{inner_product}
use Rattle.sc_table.specs.Polys.{variables_of}
use Rattle.sc_rounds.specs.Products.{variables_in, evals_in, weights_in}
use Rattle.sc_rounds.specs.Provers.{shown_of}
use Rattle.sc_definitions.specs.ProverViews.{imaged}
use Rattle.sc_rounds.specs.Represented.{tables_shown}
use Rattle.sc_definitions.proofs.MappedRounds.{mapped, below_entries, same_images, represented_sum}
use Rattle.sc_rounds.proofs.ShownLaws.{same_numbers}
use Rattle.sc_rounds.proofs.strategy.repr.ReprSumcheckProver.from_tables.Goals as goal

pub returns-clause-shown : goal.returns-clause-shown
returns-clause-shown g c =
    let represents = g.met.R.FromTable.represents in
    let to = g.R.FromTable.to_number in
    let N = g.R.Field.number in
    let T : g.row.R.Denot → ℕ = λ x. to (N x) in
    let same = same_images g.R.Field.ops g.EF.Field.ops g.met.R.Field.is_field.ring g.met.EF.Field.is_field.ring to represents.back N N in
    let poly = c.new_unpacked-poly.result in
    let size : variables_in poly ≡ variables_of c.args.evals = c.new_unpacked-poly.ensures.variables ∙ c.in_ok-evals.ensures.variables in
    let evals = map-map to N poly.evals.evals.items ∙ same_numbers g.EF.Field.number T c.args.evals poly.evals size (same _ _ c.new_unpacked-poly.ensures.evals ∙ c.in_ok-evals.ensures.images) in
    let weights = map-map to N poly.weights.evals.items ∙ same_numbers T T c.args.weights poly.weights (sym poly.same ∙ size ∙ c.requires.variables) (same _ _ c.new_unpacked-poly.ensures.weights) in
    let claim = ap to c.from_element.ensures ∙ represents.back_forth _ (g.met.EF.Field.number_below c.args.sum) in
    let parts : imaged to (shown_of N poly c.from_element.result) ≡ tables_shown g.EF.Field.number T c.args.order c.args.evals c.args.weights (g.EF.Field.number c.args.sum) =
    λ i. record { basis = c.new_unpacked-poly.ensures.basis i; order = c.new_unpacked-poly.ensures.order i; variables = size i; evals = evals i; weights = weights i; claim = claim i } in
    ap (imaged to) c.new.ensures.shown ∙ parts

pub new-requires : goal.new-requires
new-requires g c =
    let r = g.R.Field.ops in let e = g.EF.Field.ops in
    let ring_r = g.met.R.Field.is_field.ring in let ring_e = g.met.EF.Field.is_field.ring in
    let to = g.R.FromTable.to_number in
    let represents = g.met.R.FromTable.represents in
    let N = g.R.Field.number in
    let n = variables_of c.args.evals in
    let poly = c.new_unpacked-poly.result in
    let same = same_images r e ring_r ring_e to represents.back in
    let size : variables_in poly ≡ n = c.new_unpacked-poly.ensures.variables ∙ c.in_ok-evals.ensures.variables in
    represented_sum e r ring_e ring_r g.R.FromTable.from_number to represents n (evals_in N poly) (weights_in N poly) _ _ _ _
    (below_entries r e ring_r ring_e to represents.back N g.met.R.Field.number_below poly.evals.evals.items)
    (below_entries r e ring_r ring_e to represents.back N g.met.R.Field.number_below poly.weights.evals.items)
    (sym (same N N _ _ c.new_unpacked-poly.ensures.evals ∙ c.in_ok-evals.ensures.images) ∙ mapped r e ring_r ring_e to represents.back N poly.evals.evals.items)
    (sym (same N N _ _ c.new_unpacked-poly.ensures.weights) ∙ mapped r e ring_r ring_e to represents.back N poly.weights.evals.items)
    c.requires.true_sum c.from_element.ensures
    ∙ ap (λ k. inner_product r k (evals_in N poly) (weights_in N poly)) (sym size)

-- a refusal tells nothing of an answer
pub returns-in_err-evals-clause-shown : goal.returns-in_err-evals-clause-shown
returns-in_err-evals-clause-shown g c = IfOk-from_err c.from_residual.result _ c.from_residual.ensures.0

pub returns-in_err-evals-clause-outstanding : goal.returns-in_err-evals-clause-outstanding
returns-in_err-evals-clause-outstanding g c = IfOk-from_err c.from_residual.result _ c.from_residual.ensures.0
