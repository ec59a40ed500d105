use Rattle.std.proofs.Common.{◌≡◌, ℕ, ◌*◌, ◌/◌, ◌^◌, ◌<◌, length, sym, ◌∙◌, ap, arith}
use Rattle.sc_definitions.specs.Tables.{prefix, entries, bound}
use Rattle.sc_table.specs.Polys.{variables_of, table_of}
use Rattle.sc_table.proofs.FixedLaws.{fixed-prefix}
use Rattle.sc_table.proofs.KernelLaws.{messages-same}
use Rattle.sc_table.proofs.PowerLaws.{power-quarter}
use Rattle.sc_table.proofs.fused.fold_and_round_coefficients_prefix.Goals as goal

pub returns : goal.returns
returns g c =
    let a = g.A.Field in
    let ring = g.met.A.Field.is_field.ring in
    let r = g.A.Algebra.embedding (g.Ch.Field.number c.args.r) in
    let u = c.keep_first_half.new.self in
    let v = c.keep_first_half-2.new.self in
    let m = variables_of u in
    let quarter = c.num_evals-quarter.result / 4 in
    let f = bound a.ops (2 * quarter) r (entries a.number c.as_mut_slice.result.now) in
    let w = bound a.ops (2 * quarter) r (entries a.number c.as_mut_slice-2.result.now) in
    let half_is : 2 * quarter ≡ 2 ^ m =
    power-quarter _ _ m c.num_evals-quarter.ensures c.keep_first_half.ensures.fewer c.requires.two in
    let half_is_too : 2 * quarter ≡ 2 ^ variables_of v =
    power-quarter _ _ (variables_of v) c.num_evals-quarter.ensures (c.requires.same ∙ c.keep_first_half-2.ensures.fewer) c.requires.two in
    let evals_size : length c.bind_and_measure_halves-message.new.evals ≡ 2 ^ variables_of c.args.evals.now = c.bind_and_measure_halves-message.auto.evals ∙ c.as_mut_slice.ensures.size in
    let weights_size : length c.bind_and_measure_halves-message.new.weights ≡ 2 ^ variables_of c.args.weights.now = c.bind_and_measure_halves-message.auto.weights ∙ c.as_mut_slice-2.ensures.size in
    let evals : (b : ℕ) → b < 2 * quarter → table_of a.number u b ≡ f b =
    λ b low. c.keep_first_half.ensures.kept b (omega (arith, low, half_is))
    ∙ ap (λ t. t b) (c.as_mut_slice.ensures.written c.bind_and_measure_halves-message.new.evals evals_size)
    ∙ c.bind_and_measure_halves-message.ensures.evals b low in
    let weights : (b : ℕ) → b < 2 * quarter → table_of a.number v b ≡ w b =
    λ b low. c.keep_first_half-2.ensures.kept b (omega (arith, low, half_is_too))
    ∙ ap (λ t. t b) (c.as_mut_slice-2.ensures.written c.bind_and_measure_halves-message.new.weights weights_size)
    ∙ c.bind_and_measure_halves-message.ensures.weights b low in
    let half : quarter ≡ 2 ^ m / 2 = omega (arith, half_is) in
    let same = messages-same prefix a.ops quarter (2 ^ m / 2) half f (table_of a.number u) w (table_of a.number v)
    (λ k low. sym (evals k (omega (arith, low)))) (λ k low. sym (weights k (omega (arith, low)))) in
    record {
      evals = fixed-prefix a.ops ring a.number r c.args.evals.now u c.keep_first_half.ensures.fewer
          (λ b low. evals b (omega (arith, low, half_is)) ∙ ap (λ n. bound a.ops n r (entries a.number c.as_mut_slice.result.now) b) half_is ∙ ap (λ t. bound a.ops (2 ^ m) r t b) c.as_mut_slice.ensures.numbers);
      weights = fixed-prefix a.ops ring a.number r c.args.weights.now v c.keep_first_half-2.ensures.fewer
          (λ b low. weights b (omega (arith, low, half_is_too)) ∙ ap (λ n. bound a.ops n r (entries a.number c.as_mut_slice-2.result.now) b) half_is_too ∙ ap (λ t. bound a.ops (2 ^ variables_of v) r t b) c.as_mut_slice-2.ensures.numbers);
      first = c.bind_and_measure_halves-message.ensures.first ∙ same.0;
      leading = c.bind_and_measure_halves-message.ensures.leading ∙ same.1;
    }
