use Rattle.std.proofs.Common.{◌+◌, ◌-◌, ◌*◌, ◌≤◌, length}
use Rattle.sc_definitions.specs.Ring.{plus}
use Rattle.sc_definitions.specs.Residues.{residues}
use Rattle.sc_definitions.specs.Tables.{entries}
use Rattle.sc_field.specs.Products.{products}
use Rattle.sc_field.specs.Written.{HasWritten}
use Rattle.sc_small_fields.proofs.f65537.add_blocks.Given as goal

abbrev pub invariant-loop-from : goal.invariant-loop-from
invariant-loop-from l =
    record {
      within : l.from ≤ l.width;
      rows : HasWritten (λ x. x.value) (λ c. plus (residues 65537) (entries (λ x. x.value) l.fn.sums c)
          (products (residues 65537) (length l.factors) (λ a. entries (λ x. x.value) l.rows (a * l.width + c)) (entries (λ x. x.value) l.factors)))
          0 l.from l.fn.sums l.sums;
    }

abbrev pub decreases-loop-from : goal.decreases-loop-from
decreases-loop-from l = l.width - l.from
