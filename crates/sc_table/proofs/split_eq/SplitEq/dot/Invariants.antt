use Rattle.std.proofs.Common.{◌≡◌, ◌*◌, min, length}
use Rattle.sc_definitions.specs.Tables.{entries}
use Rattle.sc_field.specs.Products.{products}
use Rattle.sc_table.specs.SplitEqs.{split_weight}
use Rattle.sc_table.proofs.split_eq.SplitEq.dot.Given as goal

abbrev pub invariant-loop-a : goal.invariant-loop-a
invariant-loop-a g l =
    let f = g.EF.Field in
    record {
      so_far : f.number l.sum ≡ products f.ops (min (l.a * l.block) (length l.xs))
          (entries (λ x. g.EF.Algebra.embedding (g.A.Field.number x)) l.xs) (split_weight f.number f.ops l.self);
    }
