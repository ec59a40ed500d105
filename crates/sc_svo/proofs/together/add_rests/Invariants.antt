use Rattle.std.proofs.Common.{◌≡◌, ◌^◌, suc, length}
use Rattle.sc_definitions.specs.Tables.{entries}
use Rattle.sc_table.specs.Strategy.{order_of}
use Rattle.sc_svo.proofs.TogetherLaws.{HasRests}
use Rattle.sc_svo.proofs.together.add_rests.Given as goal

abbrev pub invariant-loop-rest : goal.invariant-loop-rest
invariant-loop-rest g l = record {
  rows : length l.rows.items ≡ 2 ^ suc l.before;
  beside : length l.beside.items ≡ 2 ^ suc l.before;
  added : HasRests g.EF.Field.number g.EF.Field.ops (order_of l.order) (entries (λ x. g.EF.Algebra.embedding (g.F.Field.number x)) l.table) (entries g.EF.Field.number l.weights)
      l.before l.after l.rest l.fn.sums l.sums;
}
