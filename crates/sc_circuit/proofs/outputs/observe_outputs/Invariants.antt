use Rattle.std.proofs.Common.{◌≡◌, ◌+◌, ◌≤◌, ◌++◌, length, map, take}
use Rattle.sc_definitions.specs.Events.{words}
use Rattle.sc_circuit.proofs.outputs.observe_outputs.Given as goal

abbrev pub invariant-loop-output : goal.invariant-loop-output
invariant-loop-output g l = record {
  rules : (g.C.Challenger.party l.challenger).rules ≡ (g.C.Challenger.party l.initial.challenger).rules;
  history : (g.C.Challenger.party l.challenger).history
      ≡ (g.C.Challenger.party l.initial.challenger).history ++ words (map g.F.Field.number (take l.output-index l.outputs));
  room : length l.outputs ≤ (g.C.Challenger.party l.challenger).spare + l.output-index;
  spare : (g.C.Challenger.party l.initial.challenger).spare ≤ (g.C.Challenger.party l.challenger).spare + l.output-index;
}
