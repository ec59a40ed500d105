use Rattle.std.proofs.Common.{◌≡◌, ◌+◌, ◌≤◌, ◌++◌, take}
use Rattle.sc_definitions.specs.Events.{words}
use Rattle.sc_challenger.proofs.extension.observe_ext.Given as goal

abbrev pub invariant-loop-i : goal.invariant-loop-i
invariant-loop-i g l =
    let c = g.C.Challenger in
    let parts = g.EF.ExtensionField.extension.parts (g.EF.Field.number l.x) in
    record {
      rules : (c.party l.challenger).rules ≡ (c.party l.initial.challenger).rules;
      history : (c.party l.challenger).history ≡ (c.party l.initial.challenger).history ++ words (take l.i parts);
      room : g.EF.ExtensionField.DEGREE ≤ (c.party l.challenger).spare + l.i;
      spare : (c.party l.initial.challenger).spare ≤ (c.party l.challenger).spare + l.i;
    }
