use Rattle.std.proofs.Common.{◌≡◌, ◌^◌, length, ◌∙◌, ap, arith}
use Rattle.std.proofs.lemmas.List.{with_items_is}
use Rattle.sc_definitions.specs.Tables.{entries}
use Rattle.sc_circuit.proofs.PhaseLaws.{places-below, first-begun}
use Rattle.sc_circuit.proofs.phase.PhaseTables.begin_first.Goals as goal

pub returns-clause-rows : goal.returns-clause-rows
returns-clause-rows g c =
    let e = g.EF.Field in
    let N = e.number in
    let ring = g.met.EF.Field.is_field.ring in
    let k = c.args.self.now.variables in
    let begun = c.begin.new.self in
    let gates = c.args.gates.now in
    let f = c.as_mut_slice.result.now in
    let r = c.as_mut_slice-2.result.now in
    let f' = c.add_first_shares.new.factors in
    let r' = c.add_first_shares.new.rests in
    let places = places-below (2 ^ k) gates c.requires.left c.requires.right in
    let f_len : length f ≡ 2 ^ k = c.as_mut_slice.ensures.len ∙ begun.factors_size ∙ ap (λ n. 2 ^ n) c.begin.ensures.variables in
    let r_len : length r ≡ 2 ^ k = c.as_mut_slice-2.ensures.len ∙ begun.rests_size ∙ ap (λ n. 2 ^ n) c.begin.ensures.variables in
    let f_same : length f' ≡ begun.factors.len = c.add_first_shares.auto.factors ∙ c.as_mut_slice.ensures.len in
    let r_same : length r' ≡ begun.rests.len = c.add_first_shares.auto.rests ∙ c.as_mut_slice-2.ensures.len in
    first-begun e.ops ring k (entries N c.args.weights.now) (entries N c.args.below.now) gates places _ (entries N f) (entries N r)
    (λ b low. ap (λ xs. entries N xs b) c.begin.ensures.values)
    (λ b low. ap (λ xs. entries N xs b) c.as_mut_slice.ensures.value ∙ c.begin.ensures.factors b low)
    (λ b low. ap (λ xs. entries N xs b) c.as_mut_slice-2.ensures.value ∙ c.begin.ensures.rests b low)
    (λ b low. ap (λ xs. entries N xs b) (with_items_is begun.factors f' f_same) ∙ c.add_first_shares.ensures.factors b (omega (arith, low, f_len)))
    (λ b low. ap (λ xs. entries N xs b) (with_items_is begun.rests r' r_same) ∙ c.add_first_shares.ensures.rests b (omega (arith, low, f_len)))
