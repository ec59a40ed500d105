use Rattle.std.proofs.Common.{rules, true≢false, sym, ◌∙◌}
use Rattle.sc_forms.proofs.ValuesRead.{value_of_text, value_of_none}
use Rattle.sc_forms.proofs.input.read_value.Goals as goal

pub returns-in-Ok-clause-ok : goal.returns-in-Ok-clause-ok
returns-in-Ok-clause-ok c = value_of_text _ _ c.in-Ok.ensures.ok.0 c.in-Ok.ensures.ok.1

pub returns-else-is_memory-clause-bad : goal.returns-else-is_memory-clause-bad
returns-else-is_memory-clause-bad c = λ e. value_of_none c.args.input.now (c.in-Err.ensures.err (λ memory. true≢false (sym (c.is_memory.ensures.1 memory) ∙ c.if-is_memory.false)))

-- want of memory is no bad text
pub returns-then-is_memory-clause-bad : goal.returns-then-is_memory-clause-bad
returns-then-is_memory-clause-bad c = search rules
