use Rattle.std.proofs.Common.{◌≡◌, ◌+◌, ◌≤◌, ◌++◌, take, replicate}
use Rattle.sc_definitions.specs.declared.events.Event.TheVariants.{Draw}
use Rattle.sc_definitions.specs.Events.{draws}
use Rattle.sc_challenger.proofs.extension.sample_ext.Given as goal

abbrev pub invariant-loop-i : goal.invariant-loop-i
invariant-loop-i g l =
    let c = g.C.Challenger in
    let parts = g.EF.ExtensionField.extension.parts (g.EF.Field.number l.x) in
    record {
      rules : (c.party l.challenger).rules ≡ (c.party l.initial.challenger).rules;
      history : (c.party l.challenger).history ≡ (c.party l.initial.challenger).history ++ replicate l.i Draw;
      drawn : take l.i parts ≡ draws (c.party l.initial.challenger).rules (c.party l.initial.challenger).history l.i;
      room : g.EF.ExtensionField.DEGREE ≤ (c.party l.challenger).spare + l.i;
      spare : (c.party l.initial.challenger).spare ≤ (c.party l.challenger).spare + l.i;
    }
