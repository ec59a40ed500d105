-- The true claims of a layer are those of its rounds' polynomials.
use Rattle.std.proofs.Common.{◌≡◌, ℕ, suc, ◌+◌, ◌-◌, List, [], ◌∷◌, ◌++◌, length, sym, ◌∙◌, ap, arith, append_assoc, length-append}
use Rattle.sc_definitions.specs.Ring.{Ops, IsRing}
use Rattle.sc_degree.specs.Provers.{IsTied}
use Rattle.sc_circuit_definitions.specs.LayerRounds.{LayerTables, layer_claim}
use Rattle.sc_circuit_definitions.proofs.LayerRoundLaws.{round-at, claim-split, round-length}
use Rattle.sc_circuit.specs.Provers.{layer_prover}

pub layer-tied : (o : Ops) → IsRing o → (t : LayerTables) (us : List ℕ) → IsTied o (layer_prover o t us)
layer-tied o ring t us =
    let n = t.variables + t.variables in
    record {
      coefficients = λ rs low. round-length o ring t (us ++ rs) (n - suc (length (us ++ rs)));
      sum = λ rs low.
          let drawn : length (us ++ rs) ≡ length us + length rs = length-append us rs in
          let left : suc (n - suc (length (us ++ rs))) ≡ n - length (us ++ rs) = omega (arith, low, drawn) in
          sym (claim-split o ring t (us ++ rs) (n - suc (length (us ++ rs)))) ∙ ap (layer_claim o t (us ++ rs)) left;
      next = λ rs r low.
          let drawn : length ((us ++ rs) ++ r ∷ []) ≡ length (us ++ rs) + 1 = length-append (us ++ rs) (r ∷ []) in
          let left : n - suc (length (us ++ rs)) ≡ n - length ((us ++ rs) ++ r ∷ []) = omega (arith, drawn) in
          round-at o ring t (us ++ rs) (n - suc (length (us ++ rs))) r
          ∙ ap (layer_claim o t ((us ++ rs) ++ r ∷ [])) left
          ∙ ap (λ l. layer_claim o t l (n - length l)) (append_assoc us rs (r ∷ []));
    }
