use Rattle.std.proofs.Common.{sym, ◌∙◌, subst}
use Rattle.sc_definitions.specs.ProverViews.{IsTrueClaim}
use Rattle.sc_table.specs.Strategy.{order_of}
use Rattle.sc_rounds.proofs.ShownLaws.{true_of}
use Rattle.sc_zk_layout.specs.Grids.{pair_shown}
use Rattle.sc_zk_layout.proofs.GridLaws.{true-side}
use Rattle.sc_zk_layout.proofs.scaled.scaled_prover.Goals as goal

pub new-requires : goal.new-requires
new-requires g c =
    let e = g.EF.Field in
    let k = e.number c.args.scale in
    let s = pair_shown e.number (order_of c.args.order) c.args.evals c.args.weights (e.number c.args.claim) in
    let is = c.scaled_pair.ensures (e.number c.args.claim) c.mul.result c.mul.ensures in
    true_of e.number e.ops c.scaled_pair.result c.mul.result
    (subst (IsTrueClaim e.ops) (sym is) (true-side e.ops g.met.EF.Field.is_field.ring s k c.requires.honest))

pub returns-clause-shown : goal.returns-clause-shown
returns-clause-shown g c = c.new.ensures.shown ∙ c.scaled_pair.ensures (g.EF.Field.number c.args.claim) c.mul.result c.mul.ensures
