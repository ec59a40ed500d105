use Rattle.std.proofs.Common.{◌≡◌, ◌<◌, ◌+◌, ◌^◌, ℕ, suc, [], ◌∷◌, ◌++◌, All, length, map, sym, ◌∙◌, ap, subst, arith, length-append}
use Rattle.std.proofs.lemmas.List.{length-map, map-append}
use Rattle.sc_definitions.specs.Tables.{entries}
use Rattle.sc_circuit_definitions.specs.LayerRounds.{LayerTables, gate_tables}
use Rattle.sc_circuit_definitions.specs.LayerPhases.{second_phase}
use Rattle.sc_circuit.specs.Phases.{phase_in, SameRows, left_after, phase_after}
use Rattle.sc_circuit.proofs.ProverLaws.{bound-after, begun-after}
use Rattle.sc_circuit.proofs.layer.LayerProverRoundProver.fold.Goals as goal

pub invariant_of-self : goal.invariant_of-self
invariant_of-self g c =
    let e = g.EF.Field in
    let N = e.number in
    let old = c.args.self.now in
    let k = old.phase.variables in
    let gates = old.gates.now in
    let phase = c.begin_second.new.self in
    let p = phase_in N phase in
    let drawn = c.push_reserved.new.self in
    let us = map N drawn.items in
    let tables : ℕ → LayerTables = λ n. gate_tables e.ops n (entries N old.weights.now) (entries N old.below.now) gates in
    let same : phase.variables ≡ k = c.begin_second.ensures.variables in
    let full : drawn.len ≡ k = omega (arith, c.if-len-variables.true, c.len.ensures, c.variables.ensures) in
    let size : length us ≡ k = length-map drawn.items N ∙ sym drawn.ok.0 ∙ full in
    let begun = begun-after e.ops (tables k) us p size (subst (λ xs. SameRows (2 ^ k) p (second_phase e.ops (tables k) (map N xs))) c.as_slice.ensures.value c.begin_second.ensures.rows) in
    record {
      left_places = subst (λ n. All (λ gate. gate.left < 2 ^ n) gates) (sym same) old.left_places;
      right_places = subst (λ n. All (λ gate. gate.right < 2 ^ n) gates) (sym same) old.right_places;
      weighed = old.weighed;
      filled = old.filled ∙ ap (λ n. 2 ^ n) (sym same);
      room = omega (arith, same, old.room, c.push_reserved.ensures.capacity);
      within = omega (arith, same, full);
      left = c.begin_second.ensures.left ∙ sym begun.0 ∙ ap (λ n. left_after n (length us)) (sym same) ∙ ap (left_after phase.variables) (size ∙ sym full);
      stands = λ some.
          subst (λ n. SameRows (2 ^ n) p (phase_after e.ops (tables phase.variables) us)) (sym c.begin_second.ensures.left)
          (subst (λ n. SameRows (2 ^ k) p (phase_after e.ops (tables n) us)) (sym same) begun.1);
    }

pub invariant_of-self-else-len-variables : goal.invariant_of-self-else-len-variables
invariant_of-self-else-len-variables g c =
    let e = g.EF.Field in
    let N = e.number in
    let ring = g.met.EF.Field.is_field.ring in
    let old = c.args.self.now in
    let k = old.phase.variables in
    let gates = old.gates.now in
    let phase = c.bind.new.self in
    let p = phase_in N phase in
    let drawn = c.push_reserved.new.self in
    let us = map N old.drawn.items in
    let us' = map N drawn.items in
    let r = N c.args.r in
    let m = phase.left in
    let tables : ℕ → LayerTables = λ n. gate_tables e.ops n (entries N old.weights.now) (entries N old.below.now) gates in
    let same : phase.variables ≡ k = c.bind.ensures.variables in
    let size : length us ≡ old.drawn.len = length-map old.drawn.items N ∙ sym old.drawn.ok.0 in
    let some_left : old.drawn.len < k + k = omega (arith, c.requires, size) in
    let one : suc m ≡ old.phase.left = omega (arith, c.bind.ensures.left) in
    let more : us' ≡ us ++ r ∷ [] = ap (map N) c.push_reserved.ensures.items ∙ map-append N old.drawn.items (c.args.r ∷ []) in
    let count : drawn.len ≡ length us + 1 = drawn.ok.0 ∙ sym (length-map drawn.items N) ∙ ap length more ∙ length-append us (r ∷ []) in
    let left : left_after k (length us) ≡ suc m = ap (left_after k) size ∙ sym old.left ∙ sym one in
    let other : length us + 1 ≡ k → ⊥ = λ is. c.if-len-variables.false (c.len.ensures ∙ count ∙ is ∙ sym c.variables.ensures) in
    let bound = bound-after e.ops ring (tables k) us m r (phase_in N old.phase) p left other
    (subst (λ n. SameRows (2 ^ n) (phase_in N old.phase) (phase_after e.ops (tables k) us)) (sym one) (old.stands some_left)) c.bind.ensures.rows in
    record {
      left_places = subst (λ n. All (λ gate. gate.left < 2 ^ n) gates) (sym same) old.left_places;
      right_places = subst (λ n. All (λ gate. gate.right < 2 ^ n) gates) (sym same) old.right_places;
      weighed = old.weighed;
      filled = old.filled ∙ ap (λ n. 2 ^ n) (sym same);
      room = omega (arith, same, old.room, c.push_reserved.ensures.capacity);
      within = omega (arith, same, count, size, some_left);
      left = sym bound.0 ∙ ap (left_after k) (sym count) ∙ ap (λ n. left_after n drawn.len) (sym same);
      stands = λ some.
          subst (λ l. SameRows (2 ^ m) p (phase_after e.ops (tables phase.variables) l)) (sym more)
          (subst (λ n. SameRows (2 ^ m) p (phase_after e.ops (tables n) (us ++ r ∷ []))) (sym same) bound.1);
    }
