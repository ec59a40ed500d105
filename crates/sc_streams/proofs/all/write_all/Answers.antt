use Rattle.std.proofs.Common.{arith, rules}
use Rattle.std.proofs.lemmas.Grind.{common_steps}
use Rattle.sc_streams.proofs.Written.{take_more}
use Rattle.sc_streams.proofs.all.write_all.Goals as goal

pub pieces-preserved : goal.pieces-preserved
pieces-preserved g c = record {
  within = grind (arith, common_steps, c.in_ok-done.ensures.bound);
  written = take_more _ _ _ c.args.text.now c.pieces.done c.in_ok-done.field-0 c.pieces.invariant.written c.in_ok-done.ensures.bytes;
  late = search rules;
  faults = search rules;
}
