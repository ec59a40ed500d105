use Rattle.std.proofs.Common.{◌+◌, ◌*◌}
use Rattle.sc_definitions.specs.Tables.{entries}
use Rattle.sc_field.specs.Written.{HasWritten}
use Rattle.sc_small_fields.proofs.f65537.add_products.Given as goal

abbrev pub invariant-loop-c : goal.invariant-loop-c
invariant-loop-c l = HasWritten (λ n. n) (λ k. entries (λ n. n) l.fn.totals k + entries (λ x. x.value) l.row k * l.factor.value) 0 l.c l.fn.totals l.totals
