use Rattle.std.proofs.Common.{◌≡◌, ◌+◌, ◌≤◌, ◌++◌, length, map, take}
use Rattle.sc_definitions.specs.Events.{words}
use Rattle.sc_matmul.proofs.drawing.observe_entries.Given as goal

abbrev pub invariant-loop-entry : goal.invariant-loop-entry
invariant-loop-entry g l = record {
  rules : (g.C.Challenger.party l.challenger).rules ≡ (g.C.Challenger.party l.initial.challenger).rules;
  history : (g.C.Challenger.party l.challenger).history
      ≡ (g.C.Challenger.party l.initial.challenger).history ++ words (map g.F.Field.number (take l.entry-index l.entries));
  room : length l.entries ≤ (g.C.Challenger.party l.challenger).spare + l.entry-index;
  spare : (g.C.Challenger.party l.initial.challenger).spare ≤ (g.C.Challenger.party l.challenger).spare + l.entry-index;
}
