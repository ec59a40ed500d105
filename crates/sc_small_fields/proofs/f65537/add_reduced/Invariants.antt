use Rattle.std.proofs.Common.{◌-◌, ◌%◌}
use Rattle.sc_definitions.specs.Ring.{plus}
use Rattle.sc_definitions.specs.Residues.{residues}
use Rattle.sc_definitions.specs.Tables.{entries}
use Rattle.sc_field.specs.Written.{HasWritten}
use Rattle.sc_small_fields.proofs.f65537.add_reduced.Given as goal

abbrev pub invariant-loop-c : goal.invariant-loop-c
invariant-loop-c l = HasWritten (λ x. x.value) (λ c. plus (residues 65537) (entries (λ x. x.value) l.fn.sums c)
    (entries (λ n. n) l.numbers (c - l.from) % 65537)) l.from l.c l.fn.sums l.sums
