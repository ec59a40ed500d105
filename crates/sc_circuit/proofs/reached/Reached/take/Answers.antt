use Rattle.std.proofs.Common.{◌≡◌, ℕ, ◌+◌, ◌-◌, ◌<◌, ◌^◌, List, [], ◌∷◌, ◌++◌, length, map, take, drop, sym, ◌∙◌, ap, subst, arith, length-drop, length-take-le}
use Rattle.std.specs.List.{take-map, drop-map}
use Rattle.std.proofs.lemmas.List.{with_items_is, length-map, map-append, take-append-drop, take_all}
use Rattle.sc_definitions.specs.Ring.{plus, times}
use Rattle.sc_definitions.specs.Tables.{entries, equality_weight}
use Rattle.sc_circuit_definitions.specs.Circuits.{merged_weight}
use Rattle.sc_circuit_definitions.specs.LayerRounds.{gate_tables, layer_sum}
use Rattle.sc_circuit.specs.Options.{or_first, disagreement_at}
use Rattle.sc_circuit.specs.Weights.{PlaceWeights, gates_sum}
use Rattle.sc_circuit.proofs.PhaseLaws.{places-below}
use Rattle.sc_circuit.proofs.WeightLaws.{gates-value, gates-weights}
use Rattle.sc_circuit.proofs.reached.Reached.take.Goals as goal

pub returns : goal.returns
unfolding merged_weight
returns g c =
    let e = g.EF.Field in
    let N = e.number in
    let o = e.ops in
    let ring = g.met.EF.Field.is_field.ring in
    let k = c.args.variables in
    let gates = c.args.gates.now in
    let rs = c.args.replayed.now.challenges in
    let lent = c.as_slice-challenges.result.now in
    let same : lent ≡ rs = c.as_slice-challenges.ensures in
    let us = take k (map N rs) in
    let vs = drop k (map N rs) in
    let m = N c.args.replayed.now.merge in
    let left = N c.args.values.0 in
    let right = N c.args.values.1 in
    let first = c.in_ok-first.first in
    let second = c.in_ok-second.second in
    let made = c.add_scaled.new.rows in
    let many : length rs ≡ k + k = c.requires.halves in
    let u_is : map N (take k lent) ≡ us = ap (λ l. map N (take k l)) same ∙ sym (take-map N k rs) in
    let back : List g.row.EF.Denot = take (length lent - k) (drop k lent) in
    let back_is : back ≡ drop k lent = take_all (length lent - k) (drop k lent) (omega (arith, length-drop k lent)) in
    let v_is : map N back ≡ vs = ap (map N) back_is ∙ ap (λ l. map N (drop k l)) same ∙ sym (drop-map N k rs) in
    let u_len : length (take k lent) ≡ k = ap (λ l. length (take k l)) same ∙ length-take-le k rs (omega (arith, many)) in
    let v_len : length back ≡ k = ap length back_is ∙ ap (λ l. length (drop k l)) same ∙ length-drop k rs ∙ omega (arith, many) in
    let us_len : length us ≡ k = ap length (sym u_is) ∙ length-map (take k lent) N ∙ u_len in
    let vs_len : length vs ≡ k = ap length (sym v_is) ∙ length-map back N ∙ v_len in
    let first_len : length first.items ≡ 2 ^ k = c.in_ok-first.ensures.len ∙ ap (λ n. 2 ^ n) u_len in
    let by_first : (b : ℕ) → b < 2 ^ k → entries N first.items b ≡ equality_weight o us b = λ b low.
    c.in_ok-first.ensures.weights b (subst (λ n. b < 2 ^ n) (sym u_len) low) ∙ ap (λ l. equality_weight o l b) u_is in
    let by_second : (b : ℕ) → b < 2 ^ k → entries N second.items b ≡ equality_weight o vs b = λ b low.
    c.in_ok-second.ensures.weights b (subst (λ n. b < 2 ^ n) (sym v_len) low) ∙ ap (λ l. equality_weight o l b) v_is in
    let lent_len : length c.as_mut_slice.result.now ≡ 2 ^ k = c.as_mut_slice.ensures.len ∙ first.ok.0 ∙ first_len in
    let made_len : length made ≡ first.len = c.add_scaled.auto.rows ∙ c.as_mut_slice.ensures.len in
    let places = places-below (2 ^ k) gates c.requires.left c.requires.right in
    let p : PlaceWeights = record { first = entries N first.items; second = entries N second.items } in
    let old = c.args.self.now in
    let value : (w : ℕ → ℕ) → ((b : ℕ) → b < length gates → entries N old.weights.items b ≡ w b) →
    N c.gates_value-value.result ≡ layer_sum o (gate_tables o k w (λ b. 0) gates) (map N rs) left right = λ w agree.
    c.gates_value-value.ensures
    ∙ ap (λ xs. gates_sum o (entries N xs) (record { first = entries N c.deref-2.result.now; second = entries N c.deref-3.result.now }) gates left right) c.deref.ensures.value
    ∙ ap (λ xs. gates_sum o (entries N old.weights.items) (record { first = entries N xs; second = entries N c.deref-3.result.now }) gates left right) c.deref-2.ensures.value
    ∙ ap (λ xs. gates_sum o (entries N old.weights.items) (record { first = entries N first.items; second = entries N xs }) gates left right) c.deref-3.ensures.value
    ∙ gates-weights o ring (entries N old.weights.items) w p gates left right agree
    ∙ gates-value o ring k us vs us_len vs_len p by_first by_second w (λ b. 0) gates left right places
    ∙ ap (λ l. layer_sum o (gate_tables o k w (λ b. 0) gates) l left right) (take-append-drop k (map N rs)) in
    record {
      claim = c.add-self.ensures ∙ ap (plus o left) c.mul.ensures;
      count = ap length (with_items_is first made made_len) ∙ made_len ∙ first.ok.0 ∙ first_len;
      weights = λ b low.
          ap (λ xs. entries N xs b) (with_items_is first made made_len)
          ∙ c.add_scaled.ensures b (subst (λ n. b < n) (sym lent_len) low)
          ∙ ap (λ xs. plus o (entries N xs b) (times o m (entries N c.deref-4.result.now b))) c.as_mut_slice.ensures.value
          ∙ ap (λ xs. plus o (entries N first.items b) (times o m (entries N xs b))) c.deref-4.ensures.value
          ∙ ap (λ n. plus o n (times o m (entries N second.items b))) (by_first b low)
          ∙ ap (λ n. plus o (equality_weight o us b) (times o m n)) (by_second b low);
      challenges = ap (map (λ row. map N row)) c.in_ok-push-2.ensures.items ∙ map-append (λ row. map N row) old.challenges.items (c.new.result ∷ [])
          ∙ ap (λ row. map (λ row. map N row) old.challenges.items ++ map N row ∷ []) (c.new.ensures ∙ c.in_ok-from_slice.ensures.items ∙ same);
      merges = ap (map N) c.in_ok-push.ensures.items ∙ map-append N old.merges.items (c.args.replayed.now.merge ∷ []);
      disagreement = λ w agree. c.first_of-self.ensures ∙ ap (λ v. or_first old.disagreement (disagreement_at c.args.layer (N c.args.replayed.now.residual) v)) (value w agree);
    }
