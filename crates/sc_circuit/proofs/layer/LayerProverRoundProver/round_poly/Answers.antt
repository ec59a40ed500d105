use Rattle.std.proofs.Common.{◌≡◌, ◌<◌, ◌+◌, ◌-◌, ◌^◌, ℕ, suc, [], ◌∷◌, ◌++◌, length, map, sym, ◌∙◌, ap, subst, arith}
use Rattle.std.proofs.lemmas.List.{length-map, append-nil}
use Rattle.sc_definitions.specs.Tables.{entries, sum_below}
use Rattle.sc_definitions.specs.Polynomials.{poly_at}
use Rattle.sc_definitions.specs.Interpolation.{node_values}
use Rattle.sc_circuit_definitions.specs.LayerRounds.{gate_tables, layer_round}
use Rattle.sc_circuit_definitions.specs.LayerPhases.{row_sum, phase_at_next}
use Rattle.sc_circuit.specs.Phases.{phase_in, SameRows, left_after, phase_after}
use Rattle.sc_circuit.proofs.ProverLaws.{round-node, left-some}
use Rattle.sc_circuit.proofs.layer.LayerProverRoundProver.round_poly.Goals as goal

pub returns : goal.returns
unfolding node_values
returns g c =
    let e = g.EF.Field in
    let N = e.number in
    let ring = g.met.EF.Field.is_field.ring in
    let self = c.args.self.now in
    let k = self.phase.variables in
    let us = map N self.drawn.items in
    let t = gate_tables e.ops k (entries N self.weights.now) (entries N self.below.now) self.gates.now in
    let size : length us ≡ self.drawn.len = length-map self.drawn.items N ∙ sym self.drawn.ok.0 in
    let some_left : self.drawn.len < k + k = omega (arith, c.requires.left, size) in
    let m = self.phase.left - 1 in
    let some : 0 < self.phase.left = subst (λ n. 0 < n) (sym self.left) (left-some k self.drawn.len some_left) in
    let one : suc m ≡ self.phase.left = omega (arith, some) in
    let left : left_after k (length us) ≡ suc m = ap (left_after k) size ∙ sym self.left ∙ sym one in
    let same = subst (λ n. SameRows (2 ^ n) (phase_in N self.phase) (phase_after e.ops t us)) (sym one) (self.stands some_left) in
    let p = phase_in N self.phase in
    let whole : us ≡ us ++ [] = sym (append-nil us) in
    let sum : ℕ → ℕ = λ x. sum_below e.ops (2 ^ m) (row_sum e.ops (phase_at_next e.ops m x p)) in
    let now : (x y : ℕ) → y ≡ x → sum y ≡ poly_at e.ops (layer_round e.ops t (us ++ []) ((k + k) - suc (length (us ++ [])))) x =
    λ x y is. ap sum is ∙ round-node e.ops ring t us m x p left same
    ∙ ap (λ l. poly_at e.ops (layer_round e.ops t l ((k + k) - suc (length l))) x) whole in
    let first = c.sum_at.ensures ∙ now 0 (N c.ZERO.result) (ap N c.ZERO.ensures ∙ g.met.EF.Field.zero_is) in
    let second = c.sum_at-2.ensures ∙ now 2 (N c.interpolation_node.result) c.interpolation_node.ensures in
    ap (map N) (c.push_reserved-2.ensures.items
    ∙ ap (λ xs. xs ++ c.sum_at-2.result ∷ []) (c.push_reserved.ensures.items ∙ ap (λ xs. xs ++ c.sum_at.result ∷ []) c.in_ok-values.ensures.empty))
    ∙ ap (λ y. y ∷ N c.sum_at-2.result ∷ []) first
    ∙ ap (λ y. poly_at e.ops (layer_round e.ops t (us ++ []) ((k + k) - suc (length (us ++ [])))) 0 ∷ y ∷ []) second
