use Rattle.std.proofs.Common.{◌-◌, map, sym, ◌∙◌, arith}
use Rattle.sc_definitions.specs.Tables.{entries}
use Rattle.sc_definitions.proofs.LoopLaws.{entry-read}
use Rattle.sc_degree.proofs.LagrangeLaws.{value-later}
use Rattle.sc_degree.proofs.util.value_at_node.Goals as goal

pub returns-in_default : goal.returns-in_default
unfolding entries
returns-in_default g c =
    let e = g.EF.Field in
    let evals = c.args.evals.now in
    sym (entry-read e.number evals (c.args.node - 1) c.index-evals-node.result (omega (arith, c.requires.within, c.requires.some)) c.index-evals-node.is)
    ∙ sym (value-later e.ops (e.number c.args.sum_constraint) (map e.number evals) c.args.node (omega arith))
