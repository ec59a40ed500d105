use Rattle.std.proofs.Common.{◌≡◌, ℕ, ◌*◌, ◌/◌, ◌%◌, ◌<◌, length}
use Rattle.sc_definitions.specs.Tables.{entries}
use Rattle.sc_merge_definitions.specs.Matrices.{product_entry}
use Rattle.sc_matmul.specs.MatrixViews.{matrix_in}
use Rattle.sc_matmul.proofs.product.product_of.Given as goal

abbrev pub invariant-loop-i : goal.invariant-loop-i
invariant-loop-i g l = record {
  count : length l.product.items ≡ l.i * l.cols;
  entries : (e : ℕ) → e < l.i * l.cols → entries g.F.Field.number l.product.items e
      ≡ product_entry g.F.Field.ops (matrix_in g.F.Field.number l.left) (matrix_in g.F.Field.number l.right) (e / l.cols) (e % l.cols);
}
