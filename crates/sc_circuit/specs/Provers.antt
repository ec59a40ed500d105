-- A layer's prover, as contracts see it.
use Rattle.std.specs.Prelude.{ℕ, suc, ◌+◌, ◌-◌, List, ◌++◌, length}
use Rattle.sc_definitions.specs.Ring.{Ops}
use Rattle.sc_degree.specs.Provers.{Prover}
use Rattle.sc_circuit_definitions.specs.LayerRounds.{LayerTables, layer_round, layer_claim}

-- the rounds of a layer after these challenges
abbrev pub layer_prover : Ops → LayerTables → List ℕ → Prover
layer_prover o t us = record {
  degree = 2;
  variables = (t.variables + t.variables) - length us;
  polynomial = λ rs. layer_round o t (us ++ rs) ((t.variables + t.variables) - suc (length (us ++ rs)));
  claim = λ rs. layer_claim o t (us ++ rs) ((t.variables + t.variables) - length (us ++ rs));
}
