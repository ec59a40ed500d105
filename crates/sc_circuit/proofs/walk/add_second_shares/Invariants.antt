use Rattle.std.proofs.Common.{length}
use Rattle.sc_definitions.specs.Tables.{entries}
use Rattle.sc_circuit.specs.Phases.{second_factor_share, second_rest_share}
use Rattle.sc_circuit.proofs.ShareLaws.{IsWalked}
use Rattle.sc_circuit.proofs.walk.add_second_shares.Given as goal

-- the shares of the gates so far are added
abbrev pub invariant-loop-index : goal.invariant-loop-index
invariant-loop-index g l =
    let e = g.EF.Field in
    record {
      factors : IsWalked e.ops g.met.EF.Field.is_field.ring (λ gate. gate.right) (second_factor_share e.ops (entries e.number l.weights) (entries e.number l.points) (e.number l.value)) l.gates (length l.fn.factors)
          l.index (entries e.number l.fn.factors) (entries e.number l.factors);
      rests : IsWalked e.ops g.met.EF.Field.is_field.ring (λ gate. gate.right) (second_rest_share e.ops (entries e.number l.weights) (entries e.number l.points) (e.number l.value)) l.gates (length l.fn.factors)
          l.index (entries e.number l.fn.rests) (entries e.number l.rests);
    }
