use Rattle.std.proofs.Common.{◌≡◌}
use Rattle.std.specs.Io.KnownBytes.{Keeps}
use Rattle.sc_streams.proofs.standard.StdSourceSource.read.Given as goal

abbrev pub invariant-loop-try : goal.invariant-loop-try
invariant-loop-try g l = record {
  kept : Keeps (g.I.Read.remaining l.initial.self.reader) (g.I.Read.remaining l.self.reader);
  faults : l.self.faults ≡ l.initial.self.faults;
}
