use Rattle.std.proofs.Common.{◌≡◌, ◌-◌, ◌≤◌, length}
use Rattle.sc_definitions.specs.Tables.{entries}
use Rattle.sc_field.specs.Products.{products}
use Rattle.sc_table.proofs.sums.dot_slices.Given as goal

abbrev pub invariant-loop-from : goal.invariant-loop-from
invariant-loop-from g l =
    let e = g.E.Field in
    record {
      within : l.from ≤ length l.xs;
      so_far : e.number l.sum ≡ products e.ops l.from (entries (λ x. g.E.Algebra.embedding (g.A.Field.number x)) l.xs) (entries e.number l.ys);
    }

abbrev pub decreases-loop-from : goal.decreases-loop-from
decreases-loop-from g l = length l.xs - l.from
