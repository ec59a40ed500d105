use Rattle.std.proofs.Common.{◌≡◌, take}
use Rattle.sc_zk_views.specs.Views.{rows_in}
use Rattle.sumcheck_explain.proofs.asked.rows.Given as goal

abbrev pub invariant-loop-list : goal.invariant-loop-list
invariant-loop-list g l = rows_in g.EF.Field.number l.found.items ≡ take l.list-index l.lists
