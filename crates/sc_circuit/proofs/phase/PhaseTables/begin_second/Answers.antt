use Rattle.std.proofs.Common.{◌≡◌, ◌<◌, ◌^◌, ℕ, length, map, ◌∙◌, ap, arith}
use Rattle.std.proofs.lemmas.List.{with_items_is, length-map}
use Rattle.std.specs.Vec.{with_items}
use Rattle.sc_definitions.specs.Tables.{entries, equality_weight}
use Rattle.sc_circuit.proofs.PhaseLaws.{places-below, second-begun, weights-alone}
use Rattle.sc_circuit.proofs.phase.PhaseTables.begin_second.Goals as goal

pub returns-clause-rows : goal.returns-clause-rows
returns-clause-rows g c =
    let e = g.EF.Field in
    let N = e.number in
    let ring = g.met.EF.Field.is_field.ring in
    let k = c.args.self.now.variables in
    let begun = c.begin.new.self in
    let gates = c.args.gates.now in
    let us = map N c.args.challenges.now in
    let f = c.as_mut_slice-3.result.now in
    let r = c.as_mut_slice-4.result.now in
    let f' = c.add_second_shares.new.factors in
    let r' = c.add_second_shares.new.rests in
    let places = places-below (2 ^ k) gates c.requires.left c.requires.right in
    let f_len : length f ≡ 2 ^ k = c.as_mut_slice-3.ensures.len ∙ begun.factors_size ∙ ap (λ n. 2 ^ n) c.begin.ensures.variables in
    let f_same : length f' ≡ begun.factors.len = c.add_second_shares.auto.factors ∙ c.as_mut_slice-3.ensures.len in
    let r_same : length r' ≡ begun.rests.len = c.add_second_shares.auto.rests ∙ c.as_mut_slice-4.ensures.len in
    let many : 2 ^ length c.args.challenges.now ≡ 2 ^ k = ap (λ n. 2 ^ n) c.requires.challenges in
    let cleared = c.clear.new.rows in
    let p_len : length cleared ≡ begun.points.len = c.clear.auto.rows ∙ c.as_mut_slice.ensures.len in
    let zeros = with_items begun.points cleared in
    let lent = c.as_mut_slice-2.result.now in
    let made = c.add_equality.new.rows in
    let made_len : length made ≡ zeros.len = c.add_equality.auto.rows ∙ c.as_mut_slice-2.ensures.len in
    let whole : length c.as_mut_slice.result.now ≡ 2 ^ k = c.as_mut_slice.ensures.len ∙ begun.points_size ∙ ap (λ n. 2 ^ n) c.begin.ensures.variables in
    let points = c.as_slice.result.now in
    let weighs : (b : ℕ) → b < 2 ^ k → entries N points b ≡ equality_weight e.ops us b = λ b low.
    ap (λ xs. entries N xs b) (c.as_slice.ensures.value ∙ with_items_is zeros made made_len)
    ∙ weights-alone e.ops ring us b (entries N made b) (entries N lent b) (N c.ONE.result)
    (c.add_equality.ensures b (omega (arith, low, many)))
    (ap (λ xs. entries N xs b) (c.as_mut_slice-2.ensures.value ∙ with_items_is begun.points cleared p_len) ∙ c.clear.ensures b (omega (arith, low, whole)))
    (ap N c.ONE.ensures ∙ g.met.EF.Field.one_is) in
    second-begun e.ops ring k (entries N c.args.weights.now) (entries N c.args.below.now) gates places us (length-map c.args.challenges.now N ∙ c.requires.challenges)
    (entries N points) weighs (N c.eval_slice-value.result) c.eval_slice-value.ensures _ (entries N f) (entries N r)
    (λ b low. ap (λ xs. entries N xs b) c.begin.ensures.values)
    (λ b low. ap (λ xs. entries N xs b) c.as_mut_slice-3.ensures.value ∙ c.begin.ensures.factors b low)
    (λ b low. ap (λ xs. entries N xs b) c.as_mut_slice-4.ensures.value ∙ c.begin.ensures.rests b low)
    (λ b low. ap (λ xs. entries N xs b) (with_items_is begun.factors f' f_same) ∙ c.add_second_shares.ensures.factors b (omega (arith, low, f_len)))
    (λ b low. ap (λ xs. entries N xs b) (with_items_is begun.rests r' r_same) ∙ c.add_second_shares.ensures.rests b (omega (arith, low, f_len)))
