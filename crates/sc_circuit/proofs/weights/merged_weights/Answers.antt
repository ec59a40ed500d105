use Rattle.std.proofs.Common.{◌≡◌, ◌+◌, ◌-◌, ◌<◌, ◌^◌, List, length, map, take, drop, sym, ◌∙◌, ap, subst, arith, length-drop, length-take-le}
use Rattle.std.specs.List.{take-map, drop-map}
use Rattle.std.proofs.lemmas.List.{with_items_is, take_all}
use Rattle.sc_definitions.specs.Ring.{plus, times}
use Rattle.sc_definitions.specs.Tables.{entries, equality_weight}
use Rattle.sc_circuit_definitions.specs.Circuits.{merged_weight}
use Rattle.sc_circuit.proofs.weights.merged_weights.Goals as goal

pub returns-clause-weights : goal.returns-clause-weights
unfolding merged_weight
returns-clause-weights g c = λ b low.
    let N = g.EF.Field.number in
    let o = g.EF.Field.ops in
    let k = c.args.variables in
    let rs = c.args.challenges.now in
    let m = N c.args.merge in
    let us = take k (map N rs) in
    let vs = drop k (map N rs) in
    let first = c.in_ok-first.first in
    let second = c.in_ok-second.second in
    let made = c.add_scaled.new.rows in
    let many : length rs ≡ k + k = c.requires.halves in
    let back : List g.row.EF.Denot = take (length rs - k) (drop k rs) in
    let back_is : back ≡ drop k rs = take_all (length rs - k) (drop k rs) (omega (arith, length-drop k rs)) in
    let u_len : length (take k rs) ≡ k = length-take-le k rs (omega (arith, many)) in
    let v_len : length back ≡ k = ap length back_is ∙ length-drop k rs ∙ omega (arith, many) in
    let first_len : length first.items ≡ 2 ^ k = c.in_ok-first.ensures.len ∙ ap (λ n. 2 ^ n) u_len in
    let by_first : entries N first.items b ≡ equality_weight o us b =
    c.in_ok-first.ensures.weights b (subst (λ n. b < 2 ^ n) (sym u_len) low) ∙ ap (λ l. equality_weight o l b) (sym (take-map N k rs)) in
    let by_second : entries N second.items b ≡ equality_weight o vs b =
    c.in_ok-second.ensures.weights b (subst (λ n. b < 2 ^ n) (sym v_len) low) ∙ ap (λ l. equality_weight o (map N l) b) back_is ∙ ap (λ l. equality_weight o l b) (sym (drop-map N k rs)) in
    let lent_len : length c.as_mut_slice.result.now ≡ 2 ^ k = c.as_mut_slice.ensures.len ∙ first.ok.0 ∙ first_len in
    let made_len : length made ≡ first.len = c.add_scaled.auto.rows ∙ c.as_mut_slice.ensures.len in
    ap (λ xs. entries N xs b) (with_items_is first made made_len)
    ∙ c.add_scaled.ensures b (subst (λ n. b < n) (sym lent_len) low)
    ∙ ap (λ xs. plus o (entries N xs b) (times o m (entries N c.deref.result.now b))) c.as_mut_slice.ensures.value
    ∙ ap (λ xs. plus o (entries N first.items b) (times o m (entries N xs b))) c.deref.ensures.value
    ∙ ap (λ n. plus o n (times o m (entries N second.items b))) by_first
    ∙ ap (λ n. plus o (equality_weight o us b) (times o m n)) by_second
