use Rattle.std.proofs.Common.{◌≡◌, ◌+◌, ◌-◌, ◌≤◌, length, vec_len}
use Rattle.std.specs.Io.KnownBytes.{Consumes}
use Rattle.sc_streams.proofs.all.read_all.Given as goal

abbrev pub invariant-pieces : goal.invariant-pieces
invariant-pieces g l = record {
  consumed : Consumes (g.S.Source.left l.initial.source) (g.S.Source.left l.source) l.bytes.items;
  given : g.S.Source.given l.source ≤ g.S.Source.given l.initial.source + length l.bytes.items;
  dry : g.S.Source.dry l.source ≤ g.S.Source.dry l.initial.source;
  size : length l.bytes.items ≤ l.limit + 1;
  late : g.S.Source.late l.source (g.S.Source.faults l.initial.source) ≤ g.S.Source.late l.initial.source (g.S.Source.faults l.initial.source);
  faults : g.S.Source.faults l.source ≡ g.S.Source.faults l.initial.source;
}

abbrev pub decreases-pieces : goal.decreases-pieces
decreases-pieces g l = l.limit + 1 - vec_len l.bytes
