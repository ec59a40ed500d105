use Rattle.std.proofs.Common.{◌≡◌, ◌+◌, ◌*◌, ◌≤◌, ◌++◌, map, replicate, vec_len, vec_capacity}
use Rattle.sc_definitions.specs.declared.events.Event.TheVariants.{Draw}
use Rattle.sc_layout.specs.Openings.{drawn_point}
use Rattle.sc_layout.proofs.drawn.draw_point.Given as goal

abbrev pub invariant-loop-place : goal.invariant-loop-place
invariant-loop-place g l =
    let c = g.C.Challenger in
    let d = g.EF.ExtensionField.DEGREE in
    let E = g.EF.ExtensionField.extension in
    record {
      rules : (c.party l.challenger).rules ≡ (c.party l.initial.challenger).rules;
      history : (c.party l.challenger).history ≡ (c.party l.initial.challenger).history ++ replicate (l._place * d) Draw;
      drawn : map g.EF.Field.number l.coordinates.items
          ≡ drawn_point (c.party l.initial.challenger).rules E (c.party l.initial.challenger).history l._place;
      count : vec_len l.coordinates ≡ l._place;
      capacity : l.variables ≤ vec_capacity l.coordinates;
      room : l.variables * d ≤ (c.party l.challenger).spare + l._place * d;
      spare : (c.party l.initial.challenger).spare ≤ (c.party l.challenger).spare + l._place * d;
    }
