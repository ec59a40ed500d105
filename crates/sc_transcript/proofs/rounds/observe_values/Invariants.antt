use Rattle.std.proofs.Common.{◌≡◌, ◌+◌, ◌*◌, ◌≤◌, ◌++◌, length, map, take}
use Rattle.sc_definitions.specs.Transcript.{sent}
use Rattle.sc_transcript.proofs.rounds.observe_values.Given as goal

abbrev pub invariant-loop-i : goal.invariant-loop-i
invariant-loop-i g l =
    let c = g.C.Challenger in
    let parts = g.EF.ExtensionField.DEGREE in
    record {
      rules : (c.party l.challenger).rules ≡ (c.party l.initial.challenger).rules;
      history : (c.party l.challenger).history
          ≡ (c.party l.initial.challenger).history ++ sent g.EF.ExtensionField.extension (map g.EF.Field.number (take l.i (g.V.RoundValues.list l.values)));
      room : length (g.V.RoundValues.list l.values) * parts ≤ (c.party l.challenger).spare + l.i * parts;
      spare : (c.party l.initial.challenger).spare ≤ (c.party l.challenger).spare + l.i * parts;
    }
