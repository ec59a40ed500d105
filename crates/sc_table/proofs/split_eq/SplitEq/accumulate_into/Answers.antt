use Rattle.std.proofs.Common.{◌<◌, sym, ◌∙◌, ap, subst}
use Rattle.sc_definitions.specs.Ring.{plus, times}
use Rattle.sc_definitions.specs.Tables.{entries}
use Rattle.sc_table.specs.SplitEqs.{split_weight}
use Rattle.sc_table.proofs.SplitLaws.{factor-unwrapped}
use Rattle.sc_table.proofs.split_eq.SplitEq.accumulate_into.Goals as goal

pub returns : goal.returns
returns g c = λ b low.
    let f = g.EF.Field in
    let factor = factor-unwrapped f.number c.args.scale c.ONE.result c.unwrap_or.result (ap f.number c.ONE.ensures ∙ g.met.EF.Field.one_is)
    c.unwrap_or.ensures in
    c.add_weights.ensures b (subst (λ k. b < k) (sym c.requires) low)
    ∙ ap (λ k. plus f.ops (entries f.number c.args.out.now b) (times f.ops k (split_weight f.number f.ops c.args.self.now b))) factor
