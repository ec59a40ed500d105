use Rattle.std.proofs.Common.{◌≡◌, ◌++◌, flat_map, length, take}
use Rattle.sc_definitions.specs.Seeds.{eight_bytes, step_bytes}
use Rattle.sc_challenger.proofs.separator.push_steps.Given as goal

abbrev pub invariant-loop-step : goal.invariant-loop-step
invariant-loop-step l = l.bytes.items ≡ l.fn.bytes.items ++ eight_bytes (length l.steps) ++ flat_map step_bytes (take l.step-index l.steps)
