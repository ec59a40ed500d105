use Rattle.std.proofs.Common.{◌≡◌}
use Rattle.std.specs.Io.KnownBytes.{Keeps}
use Rattle.sc_streams.proofs.standard.StdSinkSink.write.Given as goal

abbrev pub invariant-loop-try : goal.invariant-loop-try
invariant-loop-try g l = record {
  kept : Keeps (g.W.Write.contents l.initial.self.writer) (g.W.Write.contents l.self.writer);
  faults : l.self.faults ≡ l.initial.self.faults;
}
